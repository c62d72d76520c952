-- The end of a whole write: what it leaves, and why it failed.
use Rattle.std.proofs.Common.{◌≡◌, ◌-◌, inl, inr, ℕ, List, [], length, Option, None, Some, refl, sym, ◌∙◌, ap, subst, arith}
use Rattle.disk_model.specs.Worlds.{World}
use Rattle.disk_model.specs.Marks.{Mark}
use Rattle.map_model.specs.Cells.{Cell, Cells, growing}
use Rattle.map_model.specs.Steps.{Room, push, write, done, failed}
use Rattle.pair_draft.specs.Writers.{Writer}
use Rattle.map_model.specs.Stands.{BlockBooks}
use Rattle.pool_state.specs.Answers.{StepsTo}
use Rattle.pool_state.specs.Stands.{PoolStands}
use Rattle.pool_state.specs.Writers.{WriterStands}
use Rattle.pool_state.proofs.Pushing.{pushes}
use Rattle.client_ops.specs.declared.writing.FillFault.{FillFault}
use Rattle.client_ops.specs.declared.writing.FillFault.TheVariants.{Failed as FillFailed, Memory as FillMemory}
use Rattle.client_ops.specs.declared.writing.OpReply.{OpReply}
use Rattle.client_ops.specs.declared.writing.OpReply.TheVariants.{Ok as EndsOk, Failed as EndsFailed, Memory as EndsMemory}
use Rattle.map_model.specs.Sound.{Metas, Knowledge, matching, exactly, with_meta}
use Rattle.client_ops.specs.Writing.{op_answer, EndLeaves, EndLearns}
use Rattle.script_lang.specs.declared.reply.Reply.{Reply}
use Rattle.run_model.specs.State.{Numbers}
use Rattle.run_model.specs.Commands.{Trust, Says, IsContent, LearnsOf, LearnsBy, MetasAfter, DisksFailed, FailsBy}
use Rattle.run_session.specs.Replies.{end_reply}
use Rattle.run_session.specs.Standing.{NotGrowing}
use Rattle.run_session.proofs.Stepping.{at_block_steps}

-- all bytes are pushed
pub fill_step : {room : Room} {told : Option (List World)} {volumes : ℕ} {books : ℕ → BlockBooks} {cells : Cells} (id stamp : ℕ) (piece : List ℕ) (w : Writer) →
    WriterStands told books w [] → w.id ≡ id → w.stamp ≡ stamp → w.reserved ≡ length piece → cells id ≡ growing stamp None [] (length piece) →
    StepsTo room id (push piece) done (λ cell. cell ≡ growing stamp None piece (length piece - length piece)) cells (PoolStands told volumes books) (PoolStands told volumes books)
fill_step {room} {told} {volumes} {books} {cells} id stamp piece w belongs same_id same_stamp full grows =
    let none : w.len ≡ 0 = belongs.pushed.len in
    let rest : length piece ≡ w.reserved - w.len = omega (arith, full, none) in
    let at : cells w.id ≡ growing w.stamp None [] (w.reserved - w.len) =
    ap cells same_id ∙ grows ∙ ap (λ n. growing stamp None [] n) rest ∙ ap (λ s. growing s None [] (w.reserved - w.len)) (sym same_stamp) in
    at_block_steps same_id (pushes told volumes books cells w [] piece stamp (length piece) (length piece) belongs at (omega (arith, rest)) (sym same_stamp) (omega (arith, none)) (sym full))

pub says_end : (trust : Trust) (metas : ℕ → List ℕ) (reply : OpReply) (said : Reply) → said ≡ end_reply reply → Says trust metas (op_answer reply) said
says_end trust metas EndsOk said is = is
says_end trust metas EndsFailed said is = is
says_end trust metas EndsMemory said is = is

pub end_gives_nothing : (reply : OpReply) → IsContent (op_answer reply) → ⊥
end_gives_nothing EndsOk gives = gives
end_gives_nothing EndsFailed gives = gives
end_gives_nothing EndsMemory gives = gives

pub ends_failed : (reply : OpReply) → op_answer reply ≡ failed → reply ≡ EndsFailed
ends_failed EndsOk same = absurd cc
ends_failed EndsFailed same = refl
ends_failed EndsMemory same = absurd cc

-- no writer is left
pub end_rests : (fault : Option FillFault) (reply : OpReply) (stamp : ℕ) (bytes : List ℕ) (cell : Cell) → EndLeaves fault reply stamp bytes cell → NotGrowing cell
end_rests None EndsOk stamp bytes cell leaves = subst NotGrowing (sym leaves) tt
end_rests None EndsFailed stamp bytes cell leaves = subst NotGrowing (sym leaves) tt
end_rests None EndsMemory stamp bytes cell leaves = absurd leaves
end_rests (Some FillFailed) reply stamp bytes cell leaves = subst NotGrowing (sym leaves.1) tt
end_rests (Some FillMemory) reply stamp bytes cell leaves = elim leaves.1 [ inl gone ↦ subst NotGrowing (sym gone) tt | inr waits ↦ subst NotGrowing (sym waits) tt ]

-- what failed: the disks, or a draft of the write
pub fails_write : (Faulty : ℕ → ℕ → Type 0) (before after : Mark) (numbers : Numbers) (old : Cell) (fault : Option FillFault) (reply : OpReply) (stamp : ℕ) (bytes : List ℕ) (cell : Cell) →
    reply ≡ EndsFailed → EndLeaves fault reply stamp bytes cell → (fault ≡ None → DisksFailed before after) → (fault ≡ Some FillFailed → Faulty before.next_number after.next_number) →
    FailsBy Faulty before after numbers old (write stamp bytes) cell
fails_write Faulty before after numbers old None EndsOk stamp bytes cell is leaves disks draft = absurd cc
fails_write Faulty before after numbers old None EndsFailed stamp bytes cell is leaves disks draft =
    subst (FailsBy Faulty before after numbers old (write stamp bytes)) (sym leaves) (disks refl)
fails_write Faulty before after numbers old None EndsMemory stamp bytes cell is leaves disks draft = absurd leaves
fails_write Faulty before after numbers old (Some FillFailed) reply stamp bytes cell is leaves disks draft =
    subst (FailsBy Faulty before after numbers old (write stamp bytes)) (sym leaves.1) (inr (draft refl), refl)
fails_write Faulty before after numbers old (Some FillMemory) reply stamp bytes cell is leaves disks draft = absurd (let bad : EndsMemory ≡ EndsFailed = sym leaves.0 ∙ is in cc)

-- what is known of meta files after the end of a write, where they were these
pub record EndKnows (reply : OpReply) (stamp : ℕ) (bytes : List ℕ) (cell : Cell) (id : ℕ) (learn : Knowledge → Knowledge) (old : Metas) : Type 0 where
  pub metas : Metas
  pub is : learn (exactly old) ≡ exactly metas
  pub matching_stays : learn matching ≡ matching
  pub after : MetasAfter (write stamp bytes) (op_answer reply) old id cell metas

learned_of : (reply : OpReply) (stamp : ℕ) (bytes : List ℕ) (cell : Cell) (id : ℕ) (learn : Knowledge → Knowledge) (old : Metas) →
    EndLearns None id (record { stamp = stamp; bytes = bytes }) learn → ((metas : Metas) → LearnsOf old id (record { stamp = stamp; bytes = bytes }) metas → MetasAfter (write stamp bytes) (op_answer reply) old id cell metas) →
    EndKnows reply stamp bytes cell id learn old
learned_of reply stamp bytes cell id learn old learns after = record {
  metas = with_meta old id stamp learns.0;
  is = ap (λ f. f (exactly old)) learns.2;
  matching_stays = ap (λ f. f matching) learns.2;
  after = after (with_meta old id stamp learns.0) (record { meta = learns.0; verifies = learns.1; is = refl });
}

stopped_of : (reply : OpReply) (stamp : ℕ) (bytes : List ℕ) (cell : Cell) (id : ℕ) (learn : Knowledge → Knowledge) (old : Metas) →
    learn ≡ (λ known. known) → MetasAfter (write stamp bytes) (op_answer reply) old id cell old → EndKnows reply stamp bytes cell id learn old
stopped_of reply stamp bytes cell id learn old same after = record {
  metas = old;
  is = ap (λ f. f (exactly old)) same;
  matching_stays = ap (λ f. f matching) same;
  after = after;
}

pub end_knows : (fault : Option FillFault) (reply : OpReply) (stamp : ℕ) (bytes : List ℕ) (cell : Cell) (id : ℕ) (learn : Knowledge → Knowledge) (old : Metas) →
    EndLearns fault id (record { stamp = stamp; bytes = bytes }) learn → EndLeaves fault reply stamp bytes cell → EndKnows reply stamp bytes cell id learn old
end_knows None EndsOk stamp bytes cell id learn old learns leaves =
    learned_of EndsOk stamp bytes cell id learn old learns (λ metas known. subst (λ c. LearnsBy old id c metas) (sym leaves) known)
end_knows None EndsFailed stamp bytes cell id learn old learns leaves =
    learned_of EndsFailed stamp bytes cell id learn old learns (λ metas known. subst (λ c. LearnsBy old id c metas) (sym leaves) known)
end_knows None EndsMemory stamp bytes cell id learn old learns leaves = absurd leaves
end_knows (Some FillFailed) reply stamp bytes cell id learn old learns leaves =
    stopped_of reply stamp bytes cell id learn old learns
    (subst (λ r. MetasAfter (write stamp bytes) (op_answer r) old id cell old) (sym leaves.0) (subst (λ c. LearnsBy old id c old) (sym leaves.1) refl))
end_knows (Some FillMemory) reply stamp bytes cell id learn old learns leaves =
    stopped_of reply stamp bytes cell id learn old learns (subst (λ r. MetasAfter (write stamp bytes) (op_answer r) old id cell old) (sym leaves.0) refl)
