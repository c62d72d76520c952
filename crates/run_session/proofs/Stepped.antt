-- Steps of the commands, and what their replies say.
use Rattle.std.proofs.Common.{◌≡◌, ◌≢◌, ◌⊎◌, ◌<◌, ◌≤◌, ◌^◌, inl, inr, ℕ, MatchOption, true, false, List, length, take, Option, None, Some, refl, sym, ◌∙◌, ap, subst, arith, IsSome, IsTrue, IfSome, option_map, is_some, nat_lt, ◌==◌, if◌then◌else◌}
use Rattle.std.proofs.lemmas.Bool.{cases_eq, eq-eqb, ne_eqb}
use Rattle.std.proofs.lemmas.Bool.Decides.{nat_tests}
use Rattle.std.proofs.lemmas.Option.{same_Some}
use Rattle.std.proofs.Math.Seq.{take-length}
use Rattle.disk_model.specs.Worlds.{World, DraftPlace, draft_at}
use Rattle.disk_model.specs.Causes.{Rose, FaultyOne}
use Rattle.map_model.specs.Cells.{Replica, Cell, Cells, absent, final, growing, unsure, waiting}
use Rattle.map_model.specs.Steps.{Room, Reply as Answer, Step, CarriedOut, cell_after, success, start_write, push, finish, drop_write, write, read, delete, write_refusal, delete_refusal, half_deleted, content, done, no_block, is_writing, is_waiting, failed, memory, over, no_writer}
use Rattle.pool_state.specs.declared.start_fault.StartFault.{StartFault}
use Rattle.pool_state.specs.declared.start_fault.StartFault.TheVariants.{Exists as WasThere, None as WasAbsent, Writing as WasWriting, Waiting as WasWaiting, Unsure as WasUnsure, Full as IsFull, TooLong as IsTooLong, Worn as IsWorn, Failed as HasFailed, Memory as NoMemory}
use Rattle.pool_state.specs.declared.deleting.DeleteFault.{DeleteFault}
use Rattle.pool_state.specs.declared.deleting.DeleteFault.TheVariants.{None as NotThere, Writing as IsWrittenNow, Failed as RemovalFailed}
use Rattle.pool_state.specs.Answers.{start_fault, delete_fault}
use Rattle.pool_state.proofs.AnyRoom.{any_room}
use Rattle.meta_file.specs.declared.verdict.Verdict.{Verdict}
use Rattle.meta_file.specs.declared.verdict.Verdict.TheVariants.{Whole, BadChunk, Count, Short, Meta}
use Rattle.meta_file.specs.Verdicts.{verdict_of}
use Rattle.pair_draft.specs.Checking.{IsOnLength}
use Rattle.pair_draft.specs.Writers.{Writer, FailedOf}
use Rattle.map_model.specs.Sound.{Metas, Verifies, exactly, with_meta}
use Rattle.pool_state.specs.Readers.{Lends, IsFaulty}
use Rattle.script_lang.specs.declared.reply.Reply.{Reply}
use Rattle.script_lang.specs.declared.reply.Reply.TheVariants.{Data, Bad}
use Rattle.script_lang.specs.declared.line.Line.{Line}
use Rattle.run_model.specs.State.{Numbers, RunState}
use Rattle.disk_model.specs.Files.{Files}
use Rattle.disk_model.specs.Marks.{GivenBetween, Mark}
use Rattle.run_model.specs.Lines.{Does}
use Rattle.run_model.specs.Images.{CrashSafe}
use Rattle.run_model.specs.Commands.{Trust, any_disks, telling_disks, sound_disks, Says, Gives, IsContent, LearnsBy, MetasAfter, begins_writer}
use Rattle.run_session.specs.Replies.{refusal_reply, deletion_reply}
use Rattle.run_model.specs.Replies.{read_reply}
use Rattle.run_model.specs.Carrying.{IsKnown, LineCarried}
use Rattle.run_session.specs.Standing.{NotGrowing}

-- the reply of a refused start
says_refusal : (trust : Trust) (metas : ℕ → List ℕ) (fault : StartFault) → Says trust metas (start_fault fault) (refusal_reply fault)
says_refusal trust metas WasThere = refl
says_refusal trust metas WasAbsent = refl
says_refusal trust metas WasWriting = refl
says_refusal trust metas WasWaiting = refl
says_refusal trust metas WasUnsure = refl
says_refusal trust metas (IsFull need free) = refl
says_refusal trust metas (IsTooLong limit) = refl
says_refusal trust metas IsWorn = refl
says_refusal trust metas HasFailed = refl
says_refusal trust metas NoMemory = refl

pub says_fault : (trust : Trust) (metas : ℕ → List ℕ) (fault : StartFault) (reply : Reply) → reply ≡ refusal_reply fault → Says trust metas (start_fault fault) reply
says_fault trust metas fault reply is = subst (Says trust metas (start_fault fault)) (sym is) (says_refusal trust metas fault)

-- and gives no replica
pub start_gives_nothing : (fault : StartFault) → IsContent (start_fault fault) → ⊥
start_gives_nothing WasThere gives = gives
start_gives_nothing WasAbsent gives = gives
start_gives_nothing WasWriting gives = gives
start_gives_nothing WasWaiting gives = gives
start_gives_nothing WasUnsure gives = gives
start_gives_nothing (IsFull need free) gives = gives
start_gives_nothing (IsTooLong limit) gives = gives
start_gives_nothing IsWorn gives = gives
start_gives_nothing HasFailed gives = gives
start_gives_nothing NoMemory gives = gives

pub delete_gives_nothing : (fault : DeleteFault) → IsContent (delete_fault fault) → ⊥
delete_gives_nothing NotThere gives = gives
delete_gives_nothing IsWrittenNow gives = gives
delete_gives_nothing RemovalFailed gives = gives

pub is_failed : (fault : StartFault) → start_fault fault ≡ failed → fault ≡ HasFailed
is_failed WasThere is = absurd cc
is_failed WasAbsent is = absurd cc
is_failed WasWriting is = absurd cc
is_failed WasWaiting is = absurd cc
is_failed WasUnsure is = absurd cc
is_failed (IsFull need free) is = absurd cc
is_failed (IsTooLong limit) is = absurd cc
is_failed IsWorn is = absurd cc
is_failed HasFailed is = refl
is_failed NoMemory is = absurd cc

pub is_memory : (fault : StartFault) → start_fault fault ≡ memory → fault ≡ NoMemory
is_memory WasThere is = absurd cc
is_memory WasAbsent is = absurd cc
is_memory WasWriting is = absurd cc
is_memory WasWaiting is = absurd cc
is_memory WasUnsure is = absurd cc
is_memory (IsFull need free) is = absurd cc
is_memory (IsTooLong limit) is = absurd cc
is_memory IsWorn is = absurd cc
is_memory HasFailed is = absurd cc
is_memory NoMemory is = refl

-- a start that is refused or fails begins no writer
pub begins_nothing : (stamp need : ℕ) (fault : StartFault) → begins_writer (start_write stamp need) (start_fault fault) ≡ false
begins_nothing stamp need WasThere = refl
begins_nothing stamp need WasAbsent = refl
begins_nothing stamp need WasWriting = refl
begins_nothing stamp need WasWaiting = refl
begins_nothing stamp need WasUnsure = refl
begins_nothing stamp need (IsFull n free) = refl
begins_nothing stamp need (IsTooLong limit) = refl
begins_nothing stamp need IsWorn = refl
begins_nothing stamp need HasFailed = refl
begins_nothing stamp need NoMemory = refl

-- a block without a writer takes no piece, and no finish
pub no_push : (cell : Cell) (piece : List ℕ) → NotGrowing cell → Step any_room cell (push piece) no_writer cell
no_push absent piece rests = (refl, refl)
no_push (final replica) piece rests = (refl, refl)
no_push (growing stamp base bytes left) piece rests = absurd rests
no_push (unsure x y cut) piece rests = (refl, refl)
no_push waiting piece rests = (refl, refl)

pub no_finish : (cell : Cell) → NotGrowing cell → Step any_room cell finish no_writer cell
no_finish absent rests = (refl, refl)
no_finish (final replica) rests = (refl, refl)
no_finish (growing stamp base bytes left) rests = absurd rests
no_finish (unsure x y cut) rests = (refl, refl)
no_finish waiting rests = (refl, refl)

pub no_drop : (cell : Cell) → NotGrowing cell → Step any_room cell drop_write no_writer cell
no_drop absent rests = (refl, refl)
no_drop (final replica) rests = (refl, refl)
no_drop (growing stamp base bytes left) rests = absurd rests
no_drop (unsure x y cut) rests = (refl, refl)
no_drop waiting rests = (refl, refl)

-- where a block has no writer, none is taken out
pub same_entries : {W : Type 0} (id : ℕ) (old new : ℕ → Option W) → old id ≡ None → ((other : ℕ) → new other ≡ (if other == id then None else old other)) → (other : ℕ) → new other ≡ old other
same_entries id old new none taken other = elim (cases_eq other id) [
  | inl same ↦ taken other ∙ rw (eq-eqb other id same) (sym (ap old same ∙ none))
  | inr apart ↦ taken other ∙ rw (ne_eqb other id apart) refl
]

passes : (left n : ℕ) → left < n → nat_lt left n ≡ true
passes left n past = grind (arith, nat_tests)

fits : (left n : ℕ) → n ≤ left → nat_lt left n ≡ false
fits left n within = grind (arith, nat_tests)

-- a piece that is too long
pub over_push : (stamp left : ℕ) (bytes piece : List ℕ) → left < length piece → Step any_room (growing stamp None bytes left) (push piece) (over left) (growing stamp None bytes left)
over_push stamp left bytes piece past = rw (passes left (length piece) past) (refl, refl)

-- want of memory
pub memory_push : (stamp left : ℕ) (bytes piece : List ℕ) → length piece ≤ left → Step any_room (growing stamp None bytes left) (push piece) memory (growing stamp None bytes left)
memory_push stamp left bytes piece within = rw (fits left (length piece) within) refl

-- a piece whose draft failed
pub failed_push : (stamp left : ℕ) (bytes piece : List ℕ) → length piece ≤ left → Step any_room (growing stamp None bytes left) (push piece) failed waiting
failed_push stamp left bytes piece within = rw (fits left (length piece) within) refl

-- a writer whose end failed
pub failed_finish : (stamp left : ℕ) (bytes : List ℕ) → Step any_room (growing stamp None bytes left) finish failed waiting
failed_finish stamp left bytes = rw (fits left 0 (omega arith)) (inl refl)

pub memory_finish : (stamp left : ℕ) (bytes : List ℕ) → Step any_room (growing stamp None bytes left) finish memory (growing stamp None bytes left)
memory_finish stamp left bytes = rw (fits left 0 (omega arith)) refl

-- a read that is answered `memory` isn't of a waiting block
pub no_lack : (cell : Cell) → Step any_room cell read memory cell → cell ≡ waiting → ⊥
no_lack cell step is = let it : Step any_room waiting read memory waiting = subst (λ c. Step any_room c read memory c) is step in let bad : memory ≡ is_waiting = it.0 in absurd cc

-- the reads of a final block
module _ (cell : Cell) (replica : Replica) (is : cell ≡ final replica) where
  pub reads_content : Step any_room cell read (content replica) cell
  reads_content = subst (λ c. Step any_room c read (content replica) c) (sym is) (refl, refl)

  pub reads_failed : Step any_room cell read failed cell
  reads_failed = subst (λ c. Step any_room c read failed c) (sym is) refl

  pub reads_memory : Step any_room cell read memory cell
  reads_memory = subst (λ c. Step any_room c read memory c) (sym is) refl

  pub not_waiting : cell ≡ waiting → ⊥
  not_waiting waits = let bad : final replica ≡ waiting = sym is ∙ waits in cc

-- the reply to a read of a replica that isn't whole
bad_reply : (verdict : Verdict) → verdict ≢ Whole → (stamp : ℕ) (bytes : List ℕ) → ◌≡◌ {A = Reply} (Bad verdict) (read_reply stamp bytes verdict)
bad_reply Whole not stamp bytes = absurd (not refl)
bad_reply (BadChunk chunk stored computed) not stamp bytes = refl
bad_reply (Count want have) not stamp bytes = refl
bad_reply (Short want have) not stamp bytes = refl
bad_reply (Meta fault) not stamp bytes = refl

-- what a read gives that isn't refused
module _ {told : Option (List World)} {metas : Metas} {id : ℕ} {cell : Cell} {stamp len : ℕ} {block_bytes meta_bytes : Option (List ℕ)} (lent : Lends (exactly metas) id told cell stamp len block_bytes meta_bytes) (Sound : Type 0) where
  -- the replica was whole
  pub gives_data : (stamp' : ℕ) (bytes : List ℕ) → stamp' ≡ stamp → length bytes ≡ len → ((all : List ℕ) → block_bytes ≡ Some all → bytes ≡ take len all) →
      ((sums : List ℕ) → block_bytes ≡ Some lent.replica.bytes → meta_bytes ≡ Some sums → length sums < 2 ^ 64 → verdict_of sums lent.replica.bytes len ≡ Whole) →
      (trust : Trust) → IsKnown Sound trust told → Gives trust (metas id lent.replica.stamp) lent.replica (Data stamp' bytes)
  gives_data stamp' bytes same full front verified = by_trust
    where
      is_data : IsSome told → ◌≡◌ {A = Reply} (Data stamp' bytes) (Data lent.replica.stamp lent.replica.bytes)
      is_data known =
          let right : bytes ≡ lent.replica.bytes = front lent.replica.bytes (lent.bytes_are known) ∙ ap (λ n. take n lent.replica.bytes) lent.len_is ∙ take-length lent.replica.bytes in
          ap (λ s. Data s bytes) (same ∙ lent.stamp_is) ∙ ap (λ b. Data lent.replica.stamp b) right

      by_trust : (trust : Trust) → IsKnown Sound trust told → Gives trust (metas id lent.replica.stamp) lent.replica (Data stamp' bytes)
      by_trust any_disks known = record { bytes = bytes; len = full ∙ lent.len_is; verdict = Whole; on_length = tt; reply_is = ap (λ s. Data s bytes) (same ∙ lent.stamp_is) }
      by_trust telling_disks known =
          let it = lent.meta_is known in
          let whole = verified it.content (lent.bytes_are known) it.is it.few in
          is_data known ∙ ap (read_reply lent.replica.stamp lent.replica.bytes)
          (sym (ap (λ m. verdict_of m lent.replica.bytes (length lent.replica.bytes)) (sym it.matches) ∙ ap (verdict_of it.content lent.replica.bytes) (sym lent.len_is) ∙ whole))
      by_trust sound_disks known = is_data known.0

  -- it wasn't: such a verdict never comes of disks that began sound
  pub gives_verdict : (verdict : Verdict) → verdict ≢ Whole → IsOnLength len verdict →
      ((sums : List ℕ) → block_bytes ≡ Some lent.replica.bytes → meta_bytes ≡ Some sums → length sums < 2 ^ 64 → verdict ≡ verdict_of sums lent.replica.bytes len) →
      (IsSome told → Sound → ⊥) → (trust : Trust) → IsKnown Sound trust told → Gives trust (metas id lent.replica.stamp) lent.replica (Bad verdict)
  gives_verdict verdict not_whole on_length of never = by_trust
    where
      by_trust : (trust : Trust) → IsKnown Sound trust told → Gives trust (metas id lent.replica.stamp) lent.replica (Bad verdict)
      by_trust any_disks known = record {
        bytes = lent.replica.bytes;
        len = refl;
        verdict = verdict;
        on_length = subst (λ n. IsOnLength n verdict) lent.len_is on_length;
        reply_is = bad_reply verdict not_whole lent.replica.stamp lent.replica.bytes;
      }
      by_trust telling_disks known =
          let it = lent.meta_is known in
          bad_reply verdict not_whole lent.replica.stamp lent.replica.bytes
          ∙ ap (read_reply lent.replica.stamp lent.replica.bytes) (of it.content (lent.bytes_are known) it.is it.few ∙ ap (verdict_of it.content lent.replica.bytes) lent.len_is
          ∙ ap (λ m. verdict_of m lent.replica.bytes (length lent.replica.bytes)) it.matches)
      by_trust sound_disks known = absurd (never known.0 known.1)

-- the draft that failed is one of the writer's
pub faulty_writer : {T : Type 0} (place : T → DraftPlace) (faults : T → ℕ) (w : Writer) (numbers : Numbers) (b m vol vol' : ℕ) (path path' : List ℕ) → w.block ≡ draft_at b vol path → w.meta ≡ Some (draft_at m vol' path') →
    GivenBetween numbers.first numbers.last b → GivenBetween numbers.first numbers.last m → FailedOf place faults w → FaultyOne (λ draft. (place draft).number) faults numbers.first numbers.last
faulty_writer place faults w numbers b m vol vol' path path' block meta block_given meta_given failed_one =
    elim failed_one.own [
      | inl is ↦
          let at : (place failed_one.one).number ≡ b = ap (λ (d : DraftPlace). d.number) (is ∙ block) in
          record { one = failed_one.one; faulty = failed_one.faulty; since = omega (arith, at, block_given.since); before = omega (arith, at, block_given.before) }
      | inr is ↦
          let at : (place failed_one.one).number ≡ m = ap (λ (d : DraftPlace). d.number) (same_Some _ _ (is ∙ meta)) in
          record { one = failed_one.one; faulty = failed_one.faulty; since = omega (arith, at, meta_given.since); before = omega (arith, at, meta_given.before) }
    ]

-- a count that rose isn't zero
pub rose_above : (old new : ℕ) → Rose old new → 0 < new
rose_above old new rose = omega (arith, rose)

-- and so is the draft of its block
pub faulty_block : {T : Type 0} (place : T → DraftPlace) (faults : T → ℕ) (numbers : Numbers) (draft : T) (b vol : ℕ) (path : List ℕ) → place draft ≡ draft_at b vol path →
    GivenBetween numbers.first numbers.last b → 0 < faults draft → FaultyOne (λ d. (place d).number) faults numbers.first numbers.last
faulty_block place faults numbers draft b vol path is given faulty =
    let at : (place draft).number ≡ b = ap (λ (d : DraftPlace). d.number) is in
    record { one = draft; faulty = faulty; since = omega (arith, at, given.since); before = omega (arith, at, given.before) }

-- a whole writer has the draft of its meta file
pub has_meta : {T : Type 0} (place : T → DraftPlace) (o : Option T) (d : DraftPlace) → option_map place o ≡ Some d → IsTrue (is_some o)
has_meta place None d is = absurd cc
has_meta place (Some draft) d is = refl

-- a growing cell isn't a waiting one
pub grows_not : (cell : Cell) (stamp : ℕ) (bytes : List ℕ) (left : ℕ) → cell ≡ growing stamp None bytes left → cell ≡ waiting → ⊥
grows_not cell stamp bytes left grows waits = let bad : growing stamp None bytes left ≡ waiting = sym grows ∙ waits in cc

-- the reader that failed was lent in this command
pub faulty_reader : {R : Type 0} (number_of faults_of : R → ℕ) (first last : ℕ) (o : Option R) → IsFaulty number_of faults_of o →
    IfSome o (λ r. GivenBetween first last (number_of r)) → FaultyOne number_of faults_of first last
faulty_reader number_of faults_of first last None failed_one lent = absurd failed_one
faulty_reader number_of faults_of first last (Some r) failed_one lent =
    let at : number_of failed_one.one ≡ number_of r = failed_one.number_is in
    record { one = failed_one.one; faulty = failed_one.faulty; since = omega (arith, at, lent.since); before = omega (arith, at, lent.before) }

-- different answers
pub failed_not_memory : failed ≡ memory → ⊥
failed_not_memory same = cc

-- a write of an absent block that is carried out
pub write_of : (room : Room) (cell : Cell) (stamp : ℕ) (bytes : List ℕ) (reply : Answer) (after : Cell) → cell ≡ absent → write_refusal room absent (length bytes) ≡ None → CarriedOut absent (write stamp bytes) reply after →
    Step room cell (write stamp bytes) reply after
write_of room cell stamp bytes reply after is fits out = subst (λ c. Step room c (write stamp bytes) reply after) (sym is) (rw fits out)

never_absent : (stamp len : ℕ) (fault : StartFault) → (fault ≡ HasFailed → ⊥) → (fault ≡ NoMemory → ⊥) → CarriedOut absent (start_write stamp len) (start_fault fault) absent → ⊥
never_absent stamp len WasThere not_failed not_memory out = let bad : Rattle.map_model.specs.Steps.exists ≡ Rattle.map_model.specs.Steps.done = out.0 in cc
never_absent stamp len WasAbsent not_failed not_memory out = let bad : Rattle.map_model.specs.Steps.no_block ≡ Rattle.map_model.specs.Steps.done = out.0 in cc
never_absent stamp len WasWriting not_failed not_memory out = let bad : Rattle.map_model.specs.Steps.is_writing ≡ Rattle.map_model.specs.Steps.done = out.0 in cc
never_absent stamp len WasWaiting not_failed not_memory out = let bad : Rattle.map_model.specs.Steps.is_waiting ≡ Rattle.map_model.specs.Steps.done = out.0 in cc
never_absent stamp len WasUnsure not_failed not_memory out = let bad : Rattle.map_model.specs.Steps.is_unsure ≡ Rattle.map_model.specs.Steps.done = out.0 in cc
never_absent stamp len (IsFull need free) not_failed not_memory out = let bad : Rattle.map_model.specs.Steps.full need free ≡ Rattle.map_model.specs.Steps.done = out.0 in cc
never_absent stamp len (IsTooLong limit) not_failed not_memory out = let bad : Rattle.map_model.specs.Steps.too_long limit ≡ Rattle.map_model.specs.Steps.done = out.0 in cc
never_absent stamp len IsWorn not_failed not_memory out = let bad : Rattle.map_model.specs.Steps.worn ≡ Rattle.map_model.specs.Steps.done = out.0 in cc
never_absent stamp len HasFailed not_failed not_memory out = not_failed refl
never_absent stamp len NoMemory not_failed not_memory out = not_memory refl

-- a start that is refused refuses the write
pub write_refused : (room : Room) (cell : Cell) (stamp : ℕ) (bytes : List ℕ) (fault : StartFault) → (fault ≡ HasFailed → ⊥) → (fault ≡ NoMemory → ⊥) →
    Step room cell (start_write stamp (length bytes)) (start_fault fault) cell → Step room cell (write stamp bytes) (start_fault fault) cell
write_refused room absent stamp bytes fault not_failed not_memory step = by_refusal (write_refusal room absent (length bytes)) step
  where
    by_refusal : (refused : Option Answer) → MatchOption refused (CarriedOut absent (start_write stamp (length bytes)) (start_fault fault) absent) (λ r. (start_fault fault ≡ r) × (absent ≡ absent)) →
        MatchOption refused (CarriedOut absent (write stamp bytes) (start_fault fault) absent) (λ r. (start_fault fault ≡ r) × (absent ≡ absent))
    by_refusal None out = absurd (never_absent stamp (length bytes) fault not_failed not_memory out)
    by_refusal (Some r) same = same
write_refused room (final replica) stamp bytes fault not_failed not_memory step = step
write_refused room (growing now base grown left) stamp bytes fault not_failed not_memory step = step
write_refused room (unsure x y cut) stamp bytes fault not_failed not_memory step = step
write_refused room waiting stamp bytes fault not_failed not_memory step = step

-- a start that fails, or finds no memory, ends the write so
pub write_unstarted : (room : Room) (cell : Cell) (stamp : ℕ) (bytes : List ℕ) (fault : StartFault) (after : Cell) → cell ≡ absent → write_refusal room absent (length bytes) ≡ None → (after ≡ cell) ⊎ (after ≡ waiting) →
    Step room cell (start_write stamp (length bytes)) (start_fault fault) after → Step room cell (write stamp bytes) (start_fault fault) after
write_unstarted room cell stamp bytes fault after is fits left step =
    let at : Step room absent (start_write stamp (length bytes)) (start_fault fault) after = subst (λ c. Step room c (start_write stamp (length bytes)) (start_fault fault) after) is step in
    let out : CarriedOut absent (start_write stamp (length bytes)) (start_fault fault) after =
    subst (λ o. MatchOption o (CarriedOut absent (start_write stamp (length bytes)) (start_fault fault) after) (λ refused. (start_fault fault ≡ refused) × (after ≡ absent))) fits at in
    write_of room cell stamp bytes (start_fault fault) after is fits (unstarted stamp bytes fault after out)
  where
    unstarted : (stamp : ℕ) (bytes : List ℕ) (fault : StartFault) (after : Cell) → CarriedOut absent (start_write stamp (length bytes)) (start_fault fault) after → CarriedOut absent (write stamp bytes) (start_fault fault) after
    unstarted stamp bytes WasThere after out = absurd (let bad : Rattle.map_model.specs.Steps.exists ≡ Rattle.map_model.specs.Steps.done = out.0 in cc)
    unstarted stamp bytes WasAbsent after out = absurd (let bad : Rattle.map_model.specs.Steps.no_block ≡ Rattle.map_model.specs.Steps.done = out.0 in cc)
    unstarted stamp bytes WasWriting after out = absurd (let bad : Rattle.map_model.specs.Steps.is_writing ≡ Rattle.map_model.specs.Steps.done = out.0 in cc)
    unstarted stamp bytes WasWaiting after out = absurd (let bad : Rattle.map_model.specs.Steps.is_waiting ≡ Rattle.map_model.specs.Steps.done = out.0 in cc)
    unstarted stamp bytes WasUnsure after out = absurd (let bad : Rattle.map_model.specs.Steps.is_unsure ≡ Rattle.map_model.specs.Steps.done = out.0 in cc)
    unstarted stamp bytes (IsFull need free) after out = absurd (let bad : Rattle.map_model.specs.Steps.full need free ≡ Rattle.map_model.specs.Steps.done = out.0 in cc)
    unstarted stamp bytes (IsTooLong limit) after out = absurd (let bad : Rattle.map_model.specs.Steps.too_long limit ≡ Rattle.map_model.specs.Steps.done = out.0 in cc)
    unstarted stamp bytes IsWorn after out = absurd (let bad : Rattle.map_model.specs.Steps.worn ≡ Rattle.map_model.specs.Steps.done = out.0 in cc)
    unstarted stamp bytes HasFailed after out = elim out [ inl same ↦ inl same | inr waits ↦ inr (inl waits) ]
    unstarted stamp bytes NoMemory after out = out

pub write_begins_nothing : (stamp : ℕ) (bytes : List ℕ) (answer : Answer) → begins_writer (write stamp bytes) answer ≡ false
write_begins_nothing stamp bytes answer = refl

-- what more is known of meta files after the end of a write, by the cell that it left
pub learns_final : (metas : Metas) (id at stamp : ℕ) (bytes meta : List ℕ) → at ≡ id → Verifies meta (record { stamp = stamp; bytes = bytes }) →
    (cell : Cell) → cell ≡ final (record { stamp = stamp; bytes = bytes }) → LearnsBy metas id cell (with_meta metas at stamp meta)
learns_final metas id at stamp bytes meta same verifies cell is =
    subst (λ c. LearnsBy metas id c (with_meta metas at stamp meta)) (sym is) (record { meta = meta; verifies = verifies; is = ap (λ n. with_meta metas n stamp meta) same })

pub learns_doubt : (metas : Metas) (id at stamp : ℕ) (bytes meta : List ℕ) → at ≡ id → Verifies meta (record { stamp = stamp; bytes = bytes }) →
    (cell : Cell) → cell ≡ unsure None (Some (record { stamp = stamp; bytes = bytes })) false → LearnsBy metas id cell (with_meta metas at stamp meta)
learns_doubt metas id at stamp bytes meta same verifies cell is =
    subst (λ c. LearnsBy metas id c (with_meta metas at stamp meta)) (sym is) (record { meta = meta; verifies = verifies; is = ap (λ n. with_meta metas n stamp meta) same })

pub learns_waiting : (metas : Metas) (id : ℕ) (cell : Cell) → cell ≡ waiting → LearnsBy metas id cell metas
learns_waiting metas id cell is = subst (λ c. LearnsBy metas id c metas) (sym is) refl

-- and publishes nothing, where it is refused or its start fails
pub write_learns_nothing : (stamp : ℕ) (bytes : List ℕ) (fault : StartFault) (metas : Metas) (id : ℕ) (cell : Cell) → (fault ≡ HasFailed → cell ≡ waiting) →
    MetasAfter (write stamp bytes) (start_fault fault) metas id cell metas
write_learns_nothing stamp bytes WasThere metas id cell waits = refl
write_learns_nothing stamp bytes WasAbsent metas id cell waits = refl
write_learns_nothing stamp bytes WasWriting metas id cell waits = refl
write_learns_nothing stamp bytes WasWaiting metas id cell waits = refl
write_learns_nothing stamp bytes WasUnsure metas id cell waits = refl
write_learns_nothing stamp bytes (IsFull need free) metas id cell waits = refl
write_learns_nothing stamp bytes (IsTooLong limit) metas id cell waits = refl
write_learns_nothing stamp bytes IsWorn metas id cell waits = refl
write_learns_nothing stamp bytes HasFailed metas id cell waits = subst (λ c. LearnsBy metas id c metas) (sym (waits refl)) refl
write_learns_nothing stamp bytes NoMemory metas id cell waits = refl

-- a deletion that isn't refused is of a block without a writer
pub deletable : (cell : Cell) → delete_refusal cell ≡ None → NotGrowing cell
deletable absent is = tt
deletable (final replica) is = tt
deletable (growing stamp base bytes left) is = absurd cc
deletable (unsure x y cut) is = tt
deletable waiting is = tt

pub deleted_rests : (cell : Cell) → delete_refusal cell ≡ None → NotGrowing (half_deleted cell)
deleted_rests absent is = tt
deleted_rests (final replica) is = tt
deleted_rests (growing stamp base bytes left) is = absurd cc
deleted_rests (unsure x y cut) is = tt
deleted_rests waiting is = tt

says_deletion : (trust : Trust) (metas : ℕ → List ℕ) (fault : DeleteFault) → Says trust metas (delete_fault fault) (deletion_reply fault)
says_deletion trust metas NotThere = refl
says_deletion trust metas IsWrittenNow = refl
says_deletion trust metas RemovalFailed = refl

pub says_delete : (trust : Trust) (metas : ℕ → List ℕ) (fault : DeleteFault) (reply : Reply) → reply ≡ deletion_reply fault → Says trust metas (delete_fault fault) reply
says_delete trust metas fault reply is = subst (Says trust metas (delete_fault fault)) (sym is) (says_deletion trust metas fault)

pub delete_not_failed : (fault : DeleteFault) → (fault ≡ RemovalFailed → ⊥) → delete_fault fault ≡ failed → ⊥
delete_not_failed NotThere never same = cc
delete_not_failed IsWrittenNow never same = cc
delete_not_failed RemovalFailed never same = never refl

pub delete_not_memory : (fault : DeleteFault) → delete_fault fault ≡ memory → ⊥
delete_not_memory NotThere same = cc
delete_not_memory IsWrittenNow same = cc
delete_not_memory RemovalFailed same = cc

deletes_so : (cell : Cell) → delete_refusal cell ≡ None → (answer : Answer) → (answer ≡ done → ⊥) → answer ≡ success cell delete → ⊥
deletes_so absent free answer not_done same = absurd cc
deletes_so (final replica) free answer not_done same = not_done same
deletes_so (growing stamp base bytes left) free answer not_done same = absurd cc
deletes_so (unsure x y cut) free answer not_done same = not_done same
deletes_so waiting free answer not_done same = not_done same

-- of a block that can be deleted, the only fault is that of the disks
pub only_failure : (cell after : Cell) (fault : DeleteFault) → delete_refusal cell ≡ None → Step any_room cell delete (delete_fault fault) after → fault ≡ RemovalFailed
only_failure cell after NotThere free step = let out : (no_block ≡ success cell delete) × (cell_after cell delete ≡ Some after) = subst (λ o. MatchOption o (CarriedOut cell delete no_block after) (λ refused. (no_block ≡ refused) × (after ≡ cell))) free step in absurd (deletes_so cell free no_block (λ same. cc) out.0)
only_failure cell after IsWrittenNow free step = let out : (is_writing ≡ success cell delete) × (cell_after cell delete ≡ Some after) = subst (λ o. MatchOption o (CarriedOut cell delete is_writing after) (λ refused. (is_writing ≡ refused) × (after ≡ cell))) free step in absurd (deletes_so cell free is_writing (λ same. cc) out.0)
only_failure cell after RemovalFailed free step = refl

-- a line that is known
pub carried : {Faulty : ℕ → ℕ → Type 0} {told : Option (List World)} {old : RunState} {before : Mark} {line known_line : Line} {reply : Reply} {after : Mark} {StandsFor : RunState → Type 0}
    {Sound SoundNow : Cells → Type 0} {past since : ℕ → Files → Type 0} →
    line ≡ known_line → (new : RunState) → StandsFor new → ((trust : Trust) → IsKnown (Sound old.cells) trust told → Does trust Faulty old before known_line reply new after) →
    CrashSafe old.cells new.cells Sound SoundNow past since → LineCarried Faulty told old before line reply after StandsFor Sound SoundNow past since
carried {Faulty} {told} {old} {before} {line} {known_line} {reply} {after} is new stands does crash = record {
  new = new;
  stands = stands;
  does = λ trust known. subst (λ l. Does trust Faulty old before l reply new after) (sym is) (does trust known);
  crash = crash;
}
