-- What notes are after a history of calls.
use Rattle.std.specs.Prelude.{◌≡◌, ℕ, ◌⊎◌, Bool, if◌then◌else◌, List, [], ◌∷◌, ◌++◌, Option, Some, None}
use Rattle.turn_lock.specs.declared.notes.NoteEntry.{NoteEntry}
use Rattle.turn_lock.specs.declared.notes.NoteEntry.TheVariants.{Opening, Call}
use Rattle.turn_lock.specs.declared.view.View.{View}
use Rattle.turn_lock.specs.History.{Each, entries_of, after_opening}

-- the number of the seat that made the entry
abbrev pub note_seat : NoteEntry → Option ℕ
note_seat Opening = None
note_seat (Call seat item kept) = Some seat

-- the entry of a call
abbrev pub call_of : ℕ → ℕ → Bool → NoteEntry
call_of seat item kept = Call seat item kept

-- the items for which there was memory, in order
abbrev pub kept_items : List NoteEntry → List ℕ
kept_items [] = []
kept_items (Opening ∷ log) = kept_items log
kept_items (Call seat item kept ∷ log) = if kept then item ∷ kept_items log else kept_items log

-- the items of all calls, in order
abbrev pub asked_items : List NoteEntry → List ℕ
asked_items [] = []
asked_items (Opening ∷ log) = asked_items log
asked_items (Call seat item kept ∷ log) = item ∷ asked_items log

-- the seat is the same but for what it saw and its own entries
abbrev pub IsSameSeat : View NoteEntry → View NoteEntry → Type 0
IsSameSeat v w = (w.number ≡ v.number) × (w.stride ≡ v.stride) × (w.spare ≡ v.spare) × (w.seats ≡ v.seats) × (w.joined ≡ v.joined)

-- from v to w the seat made this entry
abbrev pub Added : NoteEntry → View NoteEntry → View NoteEntry → Type 0
Added e v w = (w.own ≡ v.own ++ e ∷ []) × IsSameSeat v w

-- from v to w the seat called with these items, in order
abbrev pub Worked : List ℕ → View NoteEntry → View NoteEntry → Type 0
Worked items v w = (asked_items w.own ≡ asked_items v.own ++ items) × IsSameSeat v w

-- the entry is of one of the seats 0, 1 and 2
abbrev pub IsOfThree : NoteEntry → Type 0
IsOfThree e = (note_seat e ≡ Some 0) ⊎ (note_seat e ≡ Some 1) ⊎ (note_seat e ≡ Some 2)

-- The items are those for which there was memory in one history. In it the calls of seat 0 have just the first items, in their order, those of seat 1 the second ones and those of seat 2 the third ones, and there are no other calls
pub record IsMerge (first second third items : List ℕ) : Type 0 where
  pub log : List NoteEntry
  pub kept : items ≡ kept_items log
  pub of_first : asked_items (entries_of note_seat 0 log) ≡ first
  pub of_second : asked_items (entries_of note_seat 1 log) ≡ second
  pub of_third : asked_items (entries_of note_seat 2 log) ≡ third
  pub no_others : Each IsOfThree (after_opening log)
