-- How the end of a write follows from the tenure that ends it.
use Rattle.std.proofs.Common.{◌≡◌, inl, inr, ℕ, List, Option, None, Some, Result, Ok, Err, refl, sym, ◌∙◌, ap, subst}
use Rattle.disk_model.specs.Files.{Files}
use Rattle.disk_model.specs.declared.disks.PoolDisks.{Ghosts}
use Rattle.disk_model.specs.declared.disks.Draft as drafts
use Rattle.disk_model.specs.declared.disks.SealedDraft as sealed
use Rattle.disk_model.specs.declared.disks.Reader as readers
use Rattle.disk_model.specs.Worlds.{World, DraftPlace}
use Rattle.map_model.specs.Cells.{Cell, Cells, absent}
use Rattle.map_model.specs.Sound.{Knowledge, learned}
use Rattle.map_model.specs.Steps.{Command, Reply, Room, CarriedOut, write}
use Rattle.map_model.specs.Stands.{BlockBooks}
use Rattle.pool_state.specs.declared.pool_record.Pool.{Pool}
use Rattle.pair_draft.specs.Writers.{Pair}
use Rattle.pool_state.specs.Writers.{PairStands, meta_of}
use Rattle.pool_state.specs.Answers.{TakesStep}
use Rattle.pool_state.specs.Tenures.{TakesLearning, KeepsWhole}
use Rattle.client_ops.specs.declared.writing.FillFault.{FillFault}
use Rattle.client_ops.specs.declared.writing.FillFault.TheVariants.{Failed as FillFailed, Memory as FillMemory}
use Rattle.client_ops.specs.declared.writing.Filled.{Filled}
use Rattle.client_ops.specs.declared.writing.OpReply.{OpReply}
use Rattle.client_ops.specs.declared.writing.OpReply.TheVariants.{Ok as EndsOk, Failed as EndsFailed, Memory as EndsMemory}
use Rattle.client_ops.specs.Writing.{fill_fault, FillStands, op_answer, EndLeaves, EndLearns, EndsAsWrite, EndsWrite}

-- the same fault
abbrev fault_of : {X E : Type 0} → E → Result X E → E
fault_of e (Ok x) = e
fault_of e (Err fault) = fault

pub same_fault : {X E : Type 0} (one other : E) → ◌≡◌ {A = Result X E} (Err one) (Err other) → one ≡ other
same_fault one other same = ap (fault_of one) same

-- more is known of the cell that a tenure leaves
pub says_else : {room : Room} {id : ℕ} {command : Command} {answer : Reply} {SaysOf Other : Cell → Type 0} {cells : Cells} {Stood StandsFor : Knowledge → Cells → Type 0} {past since : ℕ → Files → Type 0} →
    {Whole : Type 0} → TakesStep room id command answer SaysOf cells Stood StandsFor past since × Whole → ((cell : Cell) → SaysOf cell → Other cell) →
    TakesStep room id command answer Other cells Stood StandsFor past since × Whole
says_else (step, whole) more = (
  record {
    to = record { cell = step.to.cell; step = step.to.step; says = more step.to.cell step.to.says; stands = step.to.stands };
    images = step.images;
    sound_images = step.sound_images;
  },
  whole,
)

module _ {D S T R : Type 0} {g : Ghosts D S T R} {d : drafts.Ghosts T S} {s : sealed.Ghosts S} {r : readers.Ghosts R} {cells : Cells} {old new : Pool D S T R g d s r} where
  -- the end of a write is a tenure on its block
  pub ends_by : {at id stamp : ℕ} {bytes : List ℕ} {fault : Option FillFault} {reply : OpReply} {command : Command} {answer : Reply} {SaysOf : Cell → Type 0} {learn : Knowledge → Knowledge} →
      at ≡ id → TakesLearning learn at command answer SaysOf cells old new × KeepsWhole old new → ((cell : Cell) → SaysOf cell → EndLeaves fault reply stamp bytes cell) →
      EndLearns fault id (record { stamp = stamp; bytes = bytes }) learn → EndsWrite id stamp bytes fault reply cells old new × KeepsWhole old new
  ends_by {at} {id} {stamp} {bytes} {fault} {reply} {command} {answer} {learn = learn} same takes more learns =
      let else = says_else takes more in (
        record {
          command = command;
          answer = answer;
          learn = learn;
          learns = learns;
          takes = subst (λ n. TakesLearning learn n command answer (EndLeaves fault reply stamp bytes) cells old new) same else.0;
        },
        else.1,
      )

  -- by what the bytes became
  pub ends_at : (place : T → DraftPlace) (bytes_of : T → Option (List ℕ)) (sealed_place : S → DraftPlace) (sealed_bytes : S → Option (List ℕ))
      (told : Option (List World)) (books : ℕ → BlockBooks) (id stamp : ℕ) (bytes : List ℕ) (filled known : Filled D S T R) (reply : OpReply) → filled ≡ known →
      FillStands place bytes_of sealed_place sealed_bytes told books id stamp bytes filled →
      (FillStands place bytes_of sealed_place sealed_bytes told books id stamp bytes known → EndsWrite id stamp bytes (fill_fault known) reply cells old new × KeepsWhole old new) →
      EndsWrite id stamp bytes (fill_fault filled) reply cells old new × KeepsWhole old new
  ends_at place bytes_of sealed_place sealed_bytes told books id stamp bytes filled known reply is fill ends =
      subst (λ f. EndsWrite id stamp bytes (fill_fault f) reply cells old new × KeepsWhole old new) (sym is)
      (ends (subst (FillStands place bytes_of sealed_place sealed_bytes told books id stamp bytes) is fill))

-- what is known once a sealed pair was published
pub sealed_learns : {told : Option (List World)} {books : ℕ → BlockBooks} {p : Pair} {id stamp : ℕ} {bytes : List ℕ} →
    (there : (p.id ≡ id) × (p.stamp ≡ stamp) × PairStands told books p bytes) → EndLearns None id (record { stamp = stamp; bytes = bytes }) (learned p.id p.stamp (meta_of there.2))
sealed_learns {p = p} {id = id} there = (
  meta_of there.2,
  there.2.sealed.of_bytes.matches,
  ap (λ n. learned n p.stamp (meta_of there.2)) there.0 ∙ ap (λ s. learned id s (meta_of there.2)) there.1,
)

carried : (fault : Option FillFault) (reply : OpReply) (stamp : ℕ) (bytes : List ℕ) (cell : Cell) → EndLeaves fault reply stamp bytes cell → CarriedOut absent (write stamp bytes) (op_answer reply) cell
carried None EndsOk stamp bytes cell leaves = (refl, ap Some (sym leaves))
carried None EndsFailed stamp bytes cell leaves = inr (inr leaves)
carried None EndsMemory stamp bytes cell leaves = absurd leaves
carried (Some FillFailed) reply stamp bytes cell leaves = subst (λ r. CarriedOut absent (write stamp bytes) (op_answer r) cell) (sym leaves.0) (inr (inl leaves.1))
carried (Some FillMemory) reply stamp bytes cell leaves = subst (λ r. CarriedOut absent (write stamp bytes) (op_answer r) cell) (sym leaves.0) leaves.1

pub ends_as_write : EndsAsWrite
ends_as_write room fault reply stamp bytes cell fits leaves = rw fits (carried fault reply stamp bytes cell leaves)
