-- The proofs of the laws on the table of steps.
use Rattle.std.proofs.Common.{◌≡◌, ◌≢◌, ◌⊎◌, inl, inr, ℕ, ◌+◌, ◌-◌, ◌≤◌, Bool, true, false, List, [], ◌∷◌, ◌++◌, length, Option, Some, None, refl, ap, sym, ◌∙◌, subst, append_assoc, arith}
use Rattle.std.specs.Prelude.{IsTrue, IfSome, MatchOption, nat_lt, nat_le, if◌then◌else◌}
use Rattle.std.specs.List.{concat}
use Rattle.std.proofs.lemmas.Bool.{false≢true, leb-true, leb-false, lt-ltb}
use Rattle.std.proofs.lemmas.List.{append-nil, length-append}
use Rattle.std.proofs.lemmas.List.Elements.{All-head, All-tail}
use Rattle.std.proofs.lemmas.Option.{same_Some, none-some}
use Rattle.map_model.specs.Cells.{Replica, Cell, absent, final, growing, unsure, waiting}
use Rattle.map_model.specs.Steps.{Command, start_write, start_append, push, finish, drop_write, read, delete, write, append, Reply, done, content, old_stamp, full, too_long, failed, memory, over, worn, is_refusal, Room, room_refusal, write_refusal, append_refusal, writer_refusal, refusal, read_content, success, cell_after, given_up, FailedLeaves, MemoryLeaves, CarriedOut, Step, Answered, FoundAs}
use Rattle.map_model.specs.Allows.{Allows}
use Rattle.map_model.specs.StepLaws.{FirstRefusalIsAnswered, RefusedChangesNothing, OnlyOwnCellsChange, ReadsChangeNothing, ReadsGiveTheContent, PushesKeepTheWriter, PushedAll, WritesAreReadBack, AppendsAreReadBack, StepsAllowNothingElse, ReopeningsAllowNothingElse}

-- ---- refused, or carried out

step_parts : (o : Option Reply) (P : Type 0) (cell : Cell) (reply : Reply) (after : Cell) →
    MatchOption o P (λ refused. (reply ≡ refused) × (after ≡ cell)) → ((o ≡ Some reply) × (after ≡ cell)) ⊎ ((o ≡ None) × P)
step_parts None P cell reply after h = inr (refl, h)
step_parts (Some refused) P cell reply after h = inl (ap Some (sym h.0), h.1)

parts : (room : Room) (cell : Cell) (command : Command) (reply : Reply) (after : Cell) → Step room cell command reply after →
    ((refusal room cell command ≡ Some reply) × (after ≡ cell)) ⊎ ((refusal room cell command ≡ None) × CarriedOut cell command reply after)
parts room cell command reply after step = step_parts (refusal room cell command) (CarriedOut cell command reply after) cell reply after step

abbrev Ended : Cell → Command → Reply → Cell → Type 0
Ended cell command reply after =
    ((reply ≡ failed) × FailedLeaves cell command after)
    ⊎ (((reply ≡ memory) × MemoryLeaves cell command after) ⊎ ((reply ≡ success cell command) × (cell_after cell command ≡ Some after)))

ended : (cell : Cell) (command : Command) (reply : Reply) (after : Cell) → CarriedOut cell command reply after → Ended cell command reply after
ended cell command failed after leaves = inl (refl, leaves)
ended cell command memory after leaves = inr (inl (refl, leaves))
ended cell command reply after leaves = inr (inr leaves)

-- ---- which answers refuse

room_refuses : (limit need free : ℕ) (a b c : Bool) →
    IfSome (if a then Some (too_long limit) else (if b then Some (full need free) else (if c then Some worn else None))) (λ r. IsTrue (is_refusal r))
room_refuses limit need free true b c = refl
room_refuses limit need free false true c = refl
room_refuses limit need free false false true = refl
room_refuses limit need free false false false = tt

writer_refuses : (left : ℕ) (a : Bool) → IfSome (if a then Some (over left) else None) (λ r. IsTrue (is_refusal r))
writer_refuses left true = refl
writer_refuses left false = tt

write_refuses : (room : Room) (cell : Cell) (need : ℕ) → IfSome (write_refusal room cell need) (λ r. IsTrue (is_refusal r))
write_refuses room absent need = room_refuses room.limit need room.free (nat_lt room.limit need) (nat_lt room.free need) room.is_worn
write_refuses room (final replica) need = refl
write_refuses room (growing stamp base bytes left) need = refl
write_refuses room waiting need = refl
write_refuses room (unsure x y cut) need = refl

old_refuses : (a : Bool) (have : ℕ) (rest : Option Reply) → IfSome rest (λ r. IsTrue (is_refusal r)) →
    IfSome (if a then Some (old_stamp have) else rest) (λ r. IsTrue (is_refusal r))
old_refuses true have rest refuses = refl
old_refuses false have rest refuses = refuses

append_refuses : (room : Room) (cell : Cell) (stamp more : ℕ) → IfSome (append_refusal room cell stamp more) (λ r. IsTrue (is_refusal r))
append_refuses room absent stamp more = refl
append_refuses room (final replica) stamp more =
    old_refuses (nat_le stamp replica.stamp) replica.stamp (room_refusal room.limit (length replica.bytes + more) room.own_free room.is_worn)
    (room_refuses room.limit (length replica.bytes + more) room.own_free (nat_lt room.limit (length replica.bytes + more))
    (nat_lt room.own_free (length replica.bytes + more)) room.is_worn)
append_refuses room (growing now base bytes left) stamp more = refl
append_refuses room waiting stamp more = refl
append_refuses room (unsure x y cut) stamp more = refl

no_writer_refuses : (cell : Cell) (len : ℕ) → IfSome (writer_refusal cell len) (λ r. IsTrue (is_refusal r))
no_writer_refuses (growing stamp base bytes left) len = writer_refuses left (nat_lt left len)
no_writer_refuses cell len = refl

refuses : (room : Room) (cell : Cell) (command : Command) → IfSome (refusal room cell command) (λ r. IsTrue (is_refusal r))
refuses room cell (start_write stamp need) = write_refuses room cell need
refuses room cell (start_append stamp more) = append_refuses room cell stamp more
refuses room cell (push piece) = no_writer_refuses cell (length piece)
refuses room cell finish = no_writer_refuses cell 0
refuses room cell drop_write = no_writer_refuses cell 0
refuses room absent read = refl
refuses room (final replica) read = tt
refuses room (growing stamp (Some base) bytes left) read = tt
refuses room (growing stamp None bytes left) read = refl
refuses room waiting read = refl
refuses room (unsure x y cut) read = refl
refuses room absent delete = refl
refuses room (growing stamp base bytes left) delete = refl
refuses room (final replica) delete = tt
refuses room waiting delete = tt
refuses room (unsure x y cut) delete = tt
refuses room cell (write stamp bytes) = write_refuses room cell (length bytes)
refuses room cell (append stamp bytes) = append_refuses room cell stamp (length bytes)

refused_refuses : (room : Room) (cell : Cell) (command : Command) (reply : Reply) → refusal room cell command ≡ Some reply → IsTrue (is_refusal reply)
refused_refuses room cell command reply is = subst (λ o. IfSome o (λ r. IsTrue (is_refusal r))) is (refuses room cell command)

-- success is no refusal
success_is_none : (cell : Cell) (command : Command) → is_refusal (success cell command) ≡ false
success_is_none (final replica) read = refl
success_is_none (growing stamp (Some base) bytes left) read = refl
success_is_none cell command = refl

-- ---- the laws

pub first_refusal_is_answered : FirstRefusalIsAnswered
first_refusal_is_answered room cell command refused reply after is step = elim (parts room cell command reply after step) [
  | inl here ↦ same_Some reply refused (sym here.0 ∙ is)
  | inr carried ↦ absurd (none-some _ (sym carried.0 ∙ is))
]

pub refused_changes_nothing : RefusedChangesNothing
refused_changes_nothing room cell command reply after is step = elim (parts room cell command reply after step) [
  | inl here ↦ here
  | inr carried ↦ elim (ended cell command reply after carried.1) [
    | inl fault ↦ absurd (false≢true (sym (ap is_refusal fault.0) ∙ is))
    | inr (inl want) ↦ absurd (false≢true (sym (ap is_refusal want.0) ∙ is))
    | inr (inr good) ↦ absurd (false≢true (sym (success_is_none cell command) ∙ sym (ap is_refusal good.0) ∙ is))
  ]
]

pub only_own_cells_change : OnlyOwnCellsChange
only_own_cells_change cells after [] id others run = run id
only_own_cells_change cells after (answered ∷ rest) id others run =
    only_own_cells_change run.0 after rest id (All-tail (λ (a : Answered). id ≢ a.id) answered rest others) run.2
    ∙ run.1.others id (All-head (λ (a : Answered). id ≢ a.id) answered rest others)

read_leaves : (cell after : Cell) → cell_after cell read ≡ Some after → after ≡ cell
read_leaves absent after is = absurd (none-some _ is)
read_leaves (final replica) after is = sym (same_Some (final replica) after is)
read_leaves (growing stamp (Some base) bytes left) after is = sym (same_Some (growing stamp (Some base) bytes left) after is)
read_leaves (growing stamp None bytes left) after is = absurd (none-some _ is)
read_leaves (unsure x y cut) after is = absurd (none-some _ is)
read_leaves waiting after is = absurd (none-some _ is)

failed_read_leaves : (cell after : Cell) → FailedLeaves cell read after → after ≡ cell
failed_read_leaves absent after is = is
failed_read_leaves (final replica) after is = is
failed_read_leaves (growing stamp base bytes left) after is = is
failed_read_leaves (unsure x y cut) after is = is
failed_read_leaves waiting after is = is

pub reads_change_nothing : ReadsChangeNothing
reads_change_nothing room cell reply after step = elim (parts room cell read reply after step) [
  | inl here ↦ here.1
  | inr carried ↦ elim (ended cell read reply after carried.1) [
    | inl fault ↦ failed_read_leaves cell after fault.1
    | inr (inl want) ↦ want.1
    | inr (inr good) ↦ read_leaves cell after good.1
  ]
]

-- an answer that is no refusal comes of a command that no refusal stops
carried : (room : Room) (cell : Cell) (command : Command) (reply : Reply) (after : Cell) → is_refusal reply ≡ false → Step room cell command reply after →
    (refusal room cell command ≡ None) × Ended cell command reply after
carried room cell command reply after is step = elim (parts room cell command reply after step) [
  | inl here ↦ absurd (false≢true (sym is ∙ refused_refuses room cell command reply here.0))
  | inr out ↦ (out.0, ended cell command reply after out.1)
]

gives : (cell : Cell) (replica : Replica) → content replica ≡ success cell read → read_content cell ≡ Some replica
gives absent replica is = absurd (cc is)
gives (final held) replica is = (let same : replica ≡ held = cc is in ap Some (sym same))
gives (growing stamp (Some base) bytes left) replica is = (let same : replica ≡ base = cc is in ap Some (sym same))
gives (growing stamp None bytes left) replica is = absurd (cc is)
gives (unsure x y cut) replica is = absurd (cc is)
gives waiting replica is = absurd (cc is)

pub reads_give_the_content : ReadsGiveTheContent
reads_give_the_content room cell replica after step = elim (carried room cell read (content replica) after refl step).1 [
  | inl fault ↦ absurd (cc (fault.0))
  | inr (inl want) ↦ absurd (cc (want.0))
  | inr (inr good) ↦ gives cell replica good.0
]

-- ---- pushes

pushed_when : (fits : Bool) (stamp : ℕ) (base : Option Replica) (bytes piece : List ℕ) (left : ℕ) (after : Cell) → nat_le (length piece) left ≡ fits →
    (if fits then Some (growing stamp base (bytes ++ piece) (left - length piece)) else None) ≡ Some after →
    (after ≡ growing stamp base (bytes ++ piece) (left - length piece)) × (length piece ≤ left)
pushed_when true stamp base bytes piece left after within is =
    (sym (same_Some (growing stamp base (bytes ++ piece) (left - length piece)) after is), leb-true (length piece) left within)
pushed_when false stamp base bytes piece left after within is = absurd (none-some _ is)

pushed : (stamp : ℕ) (base : Option Replica) (bytes piece : List ℕ) (left : ℕ) (after : Cell) → cell_after (growing stamp base bytes left) (push piece) ≡ Some after →
    (after ≡ growing stamp base (bytes ++ piece) (left - length piece)) × (length piece ≤ left)
pushed stamp base bytes piece left after is = pushed_when (nat_le (length piece) left) stamp base bytes piece left after refl is

pub pushes_keep_the_writer : PushesKeepTheWriter
pushes_keep_the_writer room stamp base bytes left piece reply after step =
    elim (parts room (growing stamp base bytes left) (push piece) reply after step) [
      | inl here ↦ inr (bytes, left, here.1, refl)
      | inr out ↦ elim (ended (growing stamp base bytes left) (push piece) reply after out.1) [
        | inl fault ↦ inl fault
        | inr (inl want) ↦ inr (bytes, left, want.1, refl)
        | inr (inr good) ↦
            let is = pushed stamp base bytes piece left after good.1 in
            let len : length (bytes ++ piece) ≡ length bytes + length piece = length-append bytes piece in
            inr (bytes ++ piece, left - length piece, is.0, omega (arith, len, is.1))
      ]
    ]

push_done : (room : Room) (stamp : ℕ) (base : Option Replica) (bytes piece : List ℕ) (left : ℕ) (after : Cell) →
    Step room (growing stamp base bytes left) (push piece) done after →
    (after ≡ growing stamp base (bytes ++ piece) (left - length piece)) × (length piece ≤ left)
push_done room stamp base bytes piece left after step = elim (carried room (growing stamp base bytes left) (push piece) done after refl step).1 [
  | inl fault ↦ absurd (cc (fault.0))
  | inr (inl want) ↦ absurd (cc (want.0))
  | inr (inr good) ↦ pushed stamp base bytes piece left after good.1
]

all_pushed : (stamp : ℕ) (base : Option Replica) (pieces : List (List ℕ)) (bytes : List ℕ) (left : ℕ) (after : Cell) →
    PushedAll (growing stamp base bytes left) pieces after →
    (rest : ℕ) × (after ≡ growing stamp base (bytes ++ concat pieces) rest) × (length (concat pieces) + rest ≡ left)
all_pushed stamp base [] bytes left after is = (left, is ∙ ap (λ b. growing stamp base b left) (sym (append-nil bytes)), omega arith)
all_pushed stamp base (piece ∷ pieces) bytes left after run =
    let is = push_done run.0 stamp base bytes piece left run.1 run.2 in
    let more = all_pushed stamp base pieces (bytes ++ piece) (left - length piece) after (subst (λ c. PushedAll c pieces after) is.0 run.3) in
    let len : length (piece ++ concat pieces) ≡ length piece + length (concat pieces) = length-append piece (concat pieces) in
    (more.0, more.1 ∙ ap (λ b. growing stamp base b more.0) (append_assoc bytes piece (concat pieces)), omega (arith, len, more.2, is.1))

finish_done : (room : Room) (stamp : ℕ) (base : Option Replica) (bytes : List ℕ) (left : ℕ) (after : Cell) →
    Step room (growing stamp base bytes left) finish done after → after ≡ final (record { stamp = stamp; bytes = bytes })
finish_done room stamp base bytes left after step = elim (carried room (growing stamp base bytes left) finish done after refl step).1 [
  | inl fault ↦ absurd (cc (fault.0))
  | inr (inl want) ↦ absurd (cc (want.0))
  | inr (inr good) ↦ sym (same_Some (final (record { stamp = stamp; bytes = bytes })) after good.1)
]

-- what a writer writes is read back
read_back : (last later : Room) (stamp : ℕ) (base : Option Replica) (bytes : List ℕ) (left : ℕ) (opened written finished after : Cell) (pieces : List (List ℕ)) (replica : Replica) →
    opened ≡ growing stamp base bytes left → PushedAll opened pieces written → Step last written finish done finished →
    Step later finished read (content replica) after →
    (replica ≡ record { stamp = stamp; bytes = bytes ++ concat pieces }) × (length (concat pieces) ≤ left)
read_back last later stamp base bytes left opened written finished after pieces replica begins run ends reads =
    let full = all_pushed stamp base pieces bytes left written (subst (λ c. PushedAll c pieces written) begins run) in
    let whole : Replica = record { stamp = stamp; bytes = bytes ++ concat pieces } in
    let done_is : finished ≡ final whole =
    finish_done last stamp base (bytes ++ concat pieces) full.0 finished (subst (λ c. Step last c finish done finished) full.1 ends) in
    let given : read_content finished ≡ Some replica = reads_give_the_content later finished replica after reads in
    (sym (same_Some whole replica (sym (ap read_content done_is) ∙ given)), omega (arith, full.2))

fresh_only : (before opened : Cell) (stamp need : ℕ) → cell_after before (start_write stamp need) ≡ Some opened → opened ≡ growing stamp None [] need
fresh_only absent opened stamp need is = sym (same_Some (growing stamp None [] need) opened is)
fresh_only (final replica) opened stamp need is = absurd (none-some _ is)
fresh_only (growing now base bytes left) opened stamp need is = absurd (none-some _ is)
fresh_only (unsure x y cut) opened stamp need is = absurd (none-some _ is)
fresh_only waiting opened stamp need is = absurd (none-some _ is)

opened_when : (newer : Bool) (was : Replica) (opened : Cell) (stamp more : ℕ) →
    (if newer then Some (growing stamp (Some was) was.bytes more) else None) ≡ Some opened → opened ≡ growing stamp (Some was) was.bytes more
opened_when true was opened stamp more is = sym (same_Some (growing stamp (Some was) was.bytes more) opened is)
opened_when false was opened stamp more is = absurd (none-some _ is)

opened_fresh : (room : Room) (before opened : Cell) (stamp need : ℕ) → Step room before (start_write stamp need) done opened → opened ≡ growing stamp None [] need
opened_fresh room before opened stamp need step = elim (carried room before (start_write stamp need) done opened refl step).1 [
  | inl fault ↦ absurd (cc (fault.0))
  | inr (inl want) ↦ absurd (cc (want.0))
  | inr (inr good) ↦ fresh_only before opened stamp need good.1
]

pub writes_are_read_back : WritesAreReadBack
writes_are_read_back first last later before opened written finished after stamp need pieces replica begins run ends reads =
    read_back last later stamp None [] need opened written finished after pieces replica (opened_fresh first before opened stamp need begins) run ends reads

opened_over : (room : Room) (was : Replica) (opened : Cell) (stamp more : ℕ) → Step room (final was) (start_append stamp more) done opened →
    opened ≡ growing stamp (Some was) was.bytes more
opened_over room was opened stamp more step = elim (carried room (final was) (start_append stamp more) done opened refl step).1 [
  | inl fault ↦ absurd (cc (fault.0))
  | inr (inl want) ↦ absurd (cc (want.0))
  | inr (inr good) ↦ opened_when (nat_lt was.stamp stamp) was opened stamp more good.1
]

pub appends_are_read_back : AppendsAreReadBack
appends_are_read_back first last later opened written finished after was stamp more pieces replica begins run ends reads =
    read_back last later stamp (Some was) was.bytes more opened written finished after pieces replica (opened_over first was opened stamp more begins) run ends reads

-- ---- what is allowed

found_allows : (x : Option Replica) (after : Cell) (replica : Option Replica) → FoundAs x after → Allows after replica → replica ≡ x
found_allows (Some held) after replica is allows = subst (λ c. Allows c replica) is allows
found_allows None after replica (inl is) allows = subst (λ c. Allows c replica) is allows
found_allows None after replica (inr is) allows = subst (λ c. Allows c replica) is allows

pub reopenings_allow_nothing_else : ReopeningsAllowNothingElse
reopenings_allow_nothing_else absent after replica is allows = subst (λ c. Allows c replica) is allows
reopenings_allow_nothing_else (final held) after replica is allows = subst (λ c. Allows c replica) is allows
reopenings_allow_nothing_else (growing stamp (Some base) bytes left) after replica is allows = subst (λ c. Allows c replica) is allows
reopenings_allow_nothing_else (growing stamp None bytes left) after replica is allows = subst (λ c. Allows c replica) is allows
reopenings_allow_nothing_else waiting after replica (inl is) allows = subst (λ c. Allows c replica) is allows
reopenings_allow_nothing_else waiting after replica (inr is) allows = subst (λ c. Allows c replica) is allows
reopenings_allow_nothing_else (unsure x y cut) after replica (inl is) allows = inl (found_allows x after replica is allows)
reopenings_allow_nothing_else (unsure x y cut) after replica (inr (inl is)) allows = inr (inl (found_allows y after replica is allows))
reopenings_allow_nothing_else (unsure x y cut) after replica (inr (inr is)) allows = inr (inr (is.0, found_allows None after replica is.1 allows))

-- what a command that is carried out allows, by cell and command
abbrev Was : Cell → Command → Option Replica → Type 0
Was cell command replica = Allows cell replica ⊎ ((next : Cell) × (cell_after cell command ≡ Some next) × Allows next replica)

as_before : (cell after : Cell) (command : Command) (replica : Option Replica) → after ≡ cell → Allows after replica → Was cell command replica
as_before cell after command replica same allows = inl (subst (λ c. Allows c replica) same allows)

waits : (after : Cell) (command : Command) (replica : Option Replica) → after ≡ waiting → Allows after replica → Was absent command replica
waits after command replica same allows = inl (subst (λ c. Allows c replica) same allows)

gave_up : (stamp : ℕ) (base : Option Replica) (bytes : List ℕ) (left : ℕ) (after : Cell) (command : Command) (replica : Option Replica) →
    after ≡ given_up base → Allows after replica → Was (growing stamp base bytes left) command replica
gave_up stamp (Some base) bytes left after command replica same allows = inl (subst (λ c. Allows c replica) same allows)
gave_up stamp None bytes left after command replica same allows = inl (subst (λ c. Allows c replica) same allows)

-- one of two values, of which the second is what the command was to leave
of_two : (cell next after : Cell) (command : Command) (x y : Option Replica) (replica : Option Replica) → after ≡ unsure x y false → Allows after replica →
    ((r : Option Replica) → r ≡ x → Allows cell r) → ((r : Option Replica) → r ≡ y → Allows next r) → cell_after cell command ≡ Some next → Was cell command replica
of_two cell next after command x y replica same allows at_x at_y is =
    elim (subst (λ c. Allows c replica) same allows) [
      | inl first ↦ inl (at_x replica first)
      | inr (inl second) ↦ inr (next, is, at_y replica second)
      | inr (inr cut) ↦ absurd (false≢true cut.0)
    ]

-- an append that isn't refused has a newer stamp
not_old : (a : Bool) (have : ℕ) (rest : Option Reply) → (if a then Some (old_stamp have) else rest) ≡ None → a ≡ false
not_old true have rest is = absurd (cc is)
not_old false have rest is = refl

append_leaves : (room : Room) (held : Replica) (stamp : ℕ) (bytes : List ℕ) → refusal room (final held) (append stamp bytes) ≡ None →
    cell_after (final held) (append stamp bytes) ≡ Some (final (record { stamp = stamp; bytes = held.bytes ++ bytes }))
append_leaves room held stamp bytes free =
    let old : nat_le stamp held.stamp ≡ false =
    not_old (nat_le stamp held.stamp) held.stamp (room_refusal room.limit (length held.bytes + length bytes) room.own_free room.is_worn) free in
    let newer : nat_lt held.stamp stamp ≡ true = lt-ltb held.stamp stamp (leb-false stamp held.stamp old) in
    rw newer refl

-- by a fault
fault_allows : (room : Room) (cell : Cell) (command : Command) (after : Cell) (replica : Option Replica) → refusal room cell command ≡ None →
    FailedLeaves cell command after → Allows after replica → Was cell command replica
fault_allows room absent (start_write stamp need) after replica free (inl same) allows = as_before absent after (start_write stamp need) replica same allows
fault_allows room absent (start_write stamp need) after replica free (inr same) allows = waits after (start_write stamp need) replica same allows
fault_allows room absent (write stamp bytes) after replica free (inl same) allows = as_before absent after (write stamp bytes) replica same allows
fault_allows room absent (write stamp bytes) after replica free (inr (inl same)) allows = waits after (write stamp bytes) replica same allows
fault_allows room absent (write stamp bytes) after replica free (inr (inr same)) allows =
    of_two absent (final (record { stamp = stamp; bytes = bytes })) after (write stamp bytes) None (Some (record { stamp = stamp; bytes = bytes })) replica same allows
    (λ r is. is) (λ r is. is) refl
fault_allows room (final held) (start_append stamp more) after replica free same allows = as_before (final held) after (start_append stamp more) replica same allows
fault_allows room (final held) (append stamp bytes) after replica free (inl same) allows = as_before (final held) after (append stamp bytes) replica same allows
fault_allows room (final held) (append stamp bytes) after replica free (inr same) allows =
    of_two (final held) (final (record { stamp = stamp; bytes = held.bytes ++ bytes })) after (append stamp bytes)
    (Some held) (Some (record { stamp = stamp; bytes = held.bytes ++ bytes })) replica same allows
    (λ r is. is) (λ r is. is) (append_leaves room held stamp bytes free)
fault_allows room (final held) read after replica free same allows = as_before (final held) after read replica same allows
fault_allows room (final held) delete after replica free (inl same) allows = as_before (final held) after delete replica same allows
fault_allows room (final held) delete after replica free (inr same) allows =
    of_two (final held) absent after delete (Some held) None replica same allows (λ r is. is) (λ r is. is) refl
fault_allows room (growing now base bytes left) (push piece) after replica free same allows = gave_up now base bytes left after (push piece) replica same allows
fault_allows room (growing now base bytes left) drop_write after replica free same allows = gave_up now base bytes left after drop_write replica same allows
fault_allows room (growing now base bytes left) finish after replica free (inl same) allows = gave_up now base bytes left after finish replica same allows
fault_allows room (growing now base bytes left) finish after replica free (inr same) allows =
    of_two (growing now base bytes left) (final (record { stamp = now; bytes = bytes })) after finish base (Some (record { stamp = now; bytes = bytes })) replica same allows
    (λ r is. is) (λ r is. is) refl
fault_allows room (growing now base bytes left) read after replica free same allows = as_before (growing now base bytes left) after read replica same allows
fault_allows room (unsure x y cut) delete after replica free (inl same) allows = as_before (unsure x y cut) after delete replica same allows
fault_allows room (unsure x y cut) delete after replica free (inr same) allows =
    elim (subst (λ c. Allows c replica) same allows) [
      | inl first ↦ inl (inl first)
      | inr (inl second) ↦ inl (inr (inl second))
      | inr (inr gone) ↦ inr (absent, refl, gone.1)
    ]
fault_allows room waiting delete after replica free (inl same) allows = as_before waiting after delete replica same allows
fault_allows room waiting delete after replica free (inr same) allows = as_before waiting after delete replica same allows
fault_allows room cell command after replica free leaves allows = absurd (cc free)

-- by want of memory
memory_allows : (room : Room) (cell : Cell) (command : Command) (after : Cell) (replica : Option Replica) → refusal room cell command ≡ None →
    MemoryLeaves cell command after → Allows after replica → Was cell command replica
memory_allows room absent (start_write stamp need) after replica free (inl same) allows = as_before absent after (start_write stamp need) replica same allows
memory_allows room absent (start_write stamp need) after replica free (inr same) allows = waits after (start_write stamp need) replica same allows
memory_allows room absent (write stamp bytes) after replica free (inl same) allows = as_before absent after (write stamp bytes) replica same allows
memory_allows room absent (write stamp bytes) after replica free (inr same) allows = waits after (write stamp bytes) replica same allows
memory_allows room cell (start_append stamp more) after replica free same allows = as_before cell after (start_append stamp more) replica same allows
memory_allows room cell (append stamp bytes) after replica free same allows = as_before cell after (append stamp bytes) replica same allows
memory_allows room cell (push piece) after replica free same allows = as_before cell after (push piece) replica same allows
memory_allows room cell finish after replica free same allows = as_before cell after finish replica same allows
memory_allows room cell read after replica free same allows = as_before cell after read replica same allows
memory_allows room cell drop_write after replica free leaves allows = absurd leaves
memory_allows room cell delete after replica free leaves allows = absurd leaves
memory_allows room cell command after replica free leaves allows = absurd (cc free)

pub steps_allow_nothing_else : StepsAllowNothingElse
steps_allow_nothing_else room cell command reply after replica step allows = elim (parts room cell command reply after step) [
  | inl here ↦ as_before cell after command replica here.1 allows
  | inr out ↦ elim (ended cell command reply after out.1) [
    | inl fault ↦ fault_allows room cell command after replica out.0 fault.1 allows
    | inr (inl want) ↦ memory_allows room cell command after replica out.0 want.1 allows
    | inr (inr good) ↦ inr (after, good.1, allows)
  ]
]
