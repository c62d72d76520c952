-- Rows and leftovers that are put behind others, and what the books say then.
use Rattle.std.proofs.Common.{◌≡◌, ◌≢◌, ℕ, ◌==◌, true, false, List, [], ◌∷◌, ◌++◌, Option, None, Some, refl, ap, sym, ◌∙◌, subst, inl, inr, All, arith}
use Rattle.std.specs.Prelude.{find, option_map, option_and_then}
use Rattle.std.specs.Option.{option_or}
use Rattle.std.proofs.lemmas.Bool.{eq-eqb, ne_eqb}
use Rattle.std.proofs.lemmas.List.Elements.{All-weaker, All-nil, All-contains}
use Rattle.std.proofs.lemmas.List.Folds.{find-append}
use Rattle.std.specs.Ordering.{nat_cmp}
use Rattle.std.specs.Map.{lookup, keys_of}
use Rattle.std.specs.BTreeMap.{BTreeMap, is_at, get}
use Rattle.std.specs.List.Sorted.{IsStrictlySortedBy}
use Rattle.std.specs.declared.alloc.Global.{Global}
use Rattle.std.specs.declared.vec.Vec.{Vec}
use Rattle.disk_model.specs.Worlds.{World}
use Rattle.volume_layout.specs.Paths.{IsBlockId}
use Rattle.map_model.specs.Stands.{Leftover as BookLeftover, BlockBooks}
use Rattle.map_model.specs.Tenures.{books_of}
use Rattle.dup_resolve.specs.declared.CopyRow.{CopyRow}
use Rattle.replica_map.specs.declared.entry.State.{State}
use Rattle.replica_map.specs.declared.entry.State.TheVariants.{Finalised}
use Rattle.replica_map.specs.declared.row.Row.{Row}
use Rattle.replica_map.specs.declared.leftover.Leftover.{Leftover}
use Rattle.replica_map.specs.Books.{Books}
use Rattle.pool_state.specs.Books.{entry_state, books_with, block_books}
use Rattle.pool_survey.specs.declared.places.FoundOn.{FoundOn}
use Rattle.pool_survey.specs.Places.{items_or_none, ArePlaces, ArePoolBlocks}
use Rattle.pool_survey.specs.Remaining.{Remains}
use Rattle.pool_open.specs.declared.outcome.Outcome.{Outcome}
use Rattle.pool_open.specs.declared.outcome.Outcome.TheVariants.{Final, Waiting, Absent}
use Rattle.pool_open.specs.Plan.{copy_stamp}
use Rattle.pool_open.specs.Found.{entry_of, IsCopyFound, IsKept, IsOutcome, SaysNothing, SaysFound, SaysOutcome, gathered, row_of, AddsRow, MayAddRow, left_among, KeepsOthers}
use Rattle.pool_open.proofs.Lists.{nothing_more, fresh_key, key_cases, found_last, found_before}
use Rattle.pool_open.proofs.Copies.{outcome_still}
use Rattle.pool_open.proofs.Held.{held_still, size_first_still}

-- ---- rows

-- what the books say, by the block's row and leftovers
abbrev pub said : Option Row → List BookLeftover → BlockBooks
said row left = books_with (option_and_then (λ (r : Row). r.grown) row) (option_map (λ (r : Row). r.entry) row) left

abbrev pub row_among : List Row → ℕ → Option Row
row_among rows id = find (λ row. row.entry.id == id) rows

no_row : (row : Option Row) (left : List BookLeftover) → SaysNothing (said row left) → row ≡ None
no_row None left says = refl
no_row (Some row) left says = (let bad = ap (λ (b : BlockBooks). b.entry) says in absurd cc)

pub row_here : (id : ℕ) (rows : List Row) (row : Row) → row_among rows id ≡ None → row.entry.id ≡ id → row_among (rows ++ row ∷ []) id ≡ Some row
row_here id rows row none own = find-append (λ (r : Row). r.entry.id == id) rows (row ∷ [])
    ∙ ap (λ o. option_or o (row_among (row ∷ []) id)) none
    ∙ rw (eq-eqb row.entry.id id own) refl

or_none : {X : Type 0} (o : Option X) → option_or o None ≡ o
or_none None = refl
or_none (Some x) = refl

row_apart : (id : ℕ) (rows : List Row) (row : Row) → row.entry.id ≢ id → row_among (rows ++ row ∷ []) id ≡ row_among rows id
row_apart id rows row apart = find-append (λ (r : Row). r.entry.id == id) rows (row ∷ [])
    ∙ ap (λ (o : Option Row). option_or (row_among rows id) o) (rw (ne_eqb row.entry.id id apart) refl)
    ∙ or_none (row_among rows id)

module _ (rows : List Row) (leftovers : List Leftover) (id : ℕ) (nothing : SaysNothing (block_books (gathered rows leftovers) id)) where
  pub none_there : row_among rows id ≡ None
  none_there = no_row (row_among rows id) (left_among leftovers id) nothing

  none_left : left_among leftovers id ≡ []
  none_left = ap (λ (b : BlockBooks). b.leftovers) nothing

  -- the books say what was put
  pub says_put : (vol rev stamp len : ℕ) (state : State) (added : List BookLeftover) (new : List Row) (new_left : List Leftover) → new ≡ rows ++ row_of id vol rev stamp len state ∷ [] →
      left_among new_left id ≡ left_among leftovers id ++ added → block_books (gathered new new_left) id ≡ books_of (Some (entry_of vol rev stamp len (entry_state None state))) added None
  says_put vol rev stamp len state added new new_left is left_is =
      ap (λ (r : List Row). said (row_among r id) (left_among new_left id)) is
      ∙ ap (λ (o : Option Row). said o (left_among new_left id)) (row_here id rows (row_of id vol rev stamp len state) none_there refl)
      ∙ ap (said (Some (row_of id vol rev stamp len state))) (left_is ∙ ap (λ l. l ++ added) none_left)

  -- of a replica too
  pub final_says : (told : Option (List World)) (places : List FoundOn) (copy : CopyRow) (rev : ℕ) → IsKept told id places copy → (new : List Row) →
      new ≡ rows ++ row_of id copy.vol rev copy.stamp copy.len Finalised ∷ [] → SaysFound told id places (block_books (gathered new leftovers) id)
  final_says told places copy rev kept new is = record {
    outcome = Final copy;
    is = kept;
    says = record { rev = rev; is = says_put copy.vol rev copy.stamp copy.len Finalised [] new leftovers is (sym (nothing_more (left_among leftovers id))) };
  }

-- the row of a replica is one without a writer
pub final_adds : (id rev : ℕ) (copy : CopyRow) (old new : List Row) → new ≡ old ++ row_of id copy.vol rev copy.stamp copy.len Finalised ∷ [] → AddsRow id rev old new
final_adds id rev copy old new is = record { row = row_of id copy.vol rev copy.stamp copy.len Finalised; is = is; own = refl; drawn = refl; idle = refl }

row_kept : (id rev : ℕ) (old new : List Row) → MayAddRow id rev old new → (other : ℕ) → other ≢ id → row_among new other ≡ row_among old other
row_kept id rev old new (inl same) other apart = ap (λ (r : List Row). row_among r other) same
row_kept id rev old new (inr adds) other apart = ap (λ (r : List Row). row_among r other) adds.is ∙ row_apart other old adds.row (λ same. apart (sym same ∙ adds.own))

-- and of others what they said
pub keeps_others : (id rev : ℕ) (rows new : List Row) (leftovers new_left : List Leftover) → MayAddRow id rev rows new →
    ((other : ℕ) → other ≢ id → left_among new_left other ≡ left_among leftovers other) → KeepsOthers id (gathered rows leftovers) (gathered new new_left)
keeps_others id rev rows new leftovers new_left adds left_kept other apart =
    ap (λ (o : Option Row). said o (left_among new_left other)) (row_kept id rev rows new adds other apart)
    ∙ ap (said (row_among rows other)) (left_kept other apart)

-- books without any say nothing
pub says_none : (rows : List Row) (leftovers : List Leftover) → rows ≡ [] → leftovers ≡ [] → (id : ℕ) → SaysNothing (block_books (gathered rows leftovers) id)
says_none rows leftovers rows_are left_are id =
    ap (λ (r : List Row). said (row_among r id) (left_among leftovers id)) rows_are
    ∙ ap (λ (l : List Leftover). said None (left_among l id)) left_are

-- ---- what was found

module _ (volumes : ℕ) (blocks : BTreeMap ℕ (Vec FoundOn Global)) (are : ArePoolBlocks volumes blocks)
    (found : All (λ (entry : ℕ × Vec FoundOn Global). get nat_cmp blocks entry.0 ≡ Some entry.1) blocks.entries) where
  -- the keys of the table are ids of blocks
  pub ids_of : All (λ (entry : ℕ × Vec FoundOn Global). IsBlockId entry.0) blocks.entries
  ids_of = All-weaker (λ (entry : ℕ × Vec FoundOn Global). get nat_cmp blocks entry.0 ≡ Some entry.1) (λ (entry : ℕ × Vec FoundOn Global). IsBlockId entry.0)
      (λ entry is. are.ids entry.0 entry.1 is) blocks.entries found

  -- and its values the places of blocks
  pub places_are : All (λ (entry : ℕ × Vec FoundOn Global). ArePlaces volumes entry.1.items) blocks.entries
  places_are = All-weaker (λ (entry : ℕ × Vec FoundOn Global). get nat_cmp blocks entry.0 ≡ Some entry.1) (λ (entry : ℕ × Vec FoundOn Global). ArePlaces volumes entry.1.items)
      (λ entry is. subst (λ (places : List FoundOn). ArePlaces volumes places) (ap items_or_none is) (are.places entry.0)) blocks.entries found

-- what the books say stays true where calls only looked
says_by : (outcome : Outcome) (told after : Option (List World)) → Remains told after → (id : ℕ) (places : List FoundOn) (books : BlockBooks) →
    SaysOutcome outcome told id places books → SaysOutcome outcome after id places books
says_by (Final copy) told after remains id places books says = says
says_by Waiting told after remains id places books says = record {
  vol = says.vol;
  rev = says.rev;
  stamp = says.stamp;
  len = says.len;
  left = says.left;
  is = says.is;
  greatest = says.greatest;
  held = held_still told after remains id says.stamp places says.left says.held;
  first = size_first_still told after remains id places says.vol says.len says.first;
}
says_by Absent told after remains id places books says = says

pub says_still : (told after : Option (List World)) → Remains told after → (id : ℕ) (places : List FoundOn) (books : BlockBooks) →
    SaysFound told id places books → SaysFound after id places books
says_still told after remains id places books says = record {
  outcome = says.outcome;
  is = outcome_still says.outcome told after remains id places says.is;
  says = says_by says.outcome told after remains id places books says.says;
}

-- of a block of which nothing was found, the books say nothing
absent_found : (told : Option (List World)) (id : ℕ) (books : BlockBooks) → SaysNothing books → SaysFound told id [] books
absent_found told id books nothing = record { outcome = Absent; is = (All-nil (λ (on : FoundOn). copy_stamp on.files ≡ None), refl); says = nothing }

nothing_by : (outcome : Outcome) (told : Option (List World)) (id : ℕ) (books : BlockBooks) → IsOutcome told id [] outcome → SaysOutcome outcome told id [] books → SaysNothing books
nothing_by (Final copy) told id books is says =
    let found = All-contains (IsCopyFound told id []) is.copies copy is.are.each is.one_of in
    absurd (omega (arith, found.found.1))
nothing_by Waiting told id books is says = (let bad : false ≡ true = is.1 in absurd cc)
nothing_by Absent told id books is says = says

-- books without any say nothing, of blocks of which nothing was found
pub says_empty : (told : Option (List World)) (rows : List Row) (leftovers : List Leftover) → rows ≡ [] → leftovers ≡ [] → (id : ℕ) →
    SaysFound told id [] (block_books (gathered rows leftovers) id)
says_empty told rows leftovers rows_are left_are id = absent_found told id (block_books (gathered rows leftovers) id) (says_none rows leftovers rows_are left_are id)

-- the places of a block, of those that were passed
abbrev pub places_among : List (ℕ × Vec FoundOn Global) → ℕ → List FoundOn
places_among passed id = items_or_none (lookup (is_at (nat_cmp id)) passed)

-- one more block, of a table whose first blocks were added
module _ (told after : Option (List World)) (books new : Books) (es passed left rest : List (ℕ × Vec FoundOn Global)) (one : ℕ × Vec FoundOn Global) (id : ℕ)
    (is : left ≡ one ∷ rest) (split : passed ++ left ≡ es) (sorted : IsStrictlySortedBy nat_cmp (keys_of es)) (same : id ≡ one.0)
    (says : (other : ℕ) → SaysFound told other (places_among passed other) (block_books books other)) where
  not_passed : lookup (is_at (nat_cmp one.0)) passed ≡ None
  not_passed =
      let whole : passed ++ one ∷ rest ≡ es = sym (ap (λ l. passed ++ l) is) ∙ split in
      fresh_key passed one rest (subst (λ (l : List (ℕ × Vec FoundOn Global)). IsStrictlySortedBy nat_cmp (keys_of l)) (sym whole) sorted)

  pub says_nothing : SaysNothing (block_books books id)
  says_nothing =
      let here : SaysFound told one.0 [] (block_books books one.0) =
      subst (λ (l : List FoundOn). SaysFound told one.0 l (block_books books one.0)) (ap items_or_none not_passed) (says one.0) in
      let nothing : SaysNothing (block_books books one.0) = nothing_by here.outcome told one.0 (block_books books one.0) here.is here.says in
      ap (block_books books) same ∙ nothing

  pub says_more : Remains told after → KeepsOthers id books new → SaysFound after id one.1.items (block_books new id) →
      (other : ℕ) → SaysFound after other (places_among (passed ++ one ∷ []) other) (block_books new other)
  says_more remains keeps here other = elim (key_cases other one.0) [
    | inl at ↦
        let at_other : SaysFound after other one.1.items (block_books new other) =
        subst (λ n. SaysFound after n one.1.items (block_books new n)) (same ∙ sym at.1) here in
        subst (λ (l : List FoundOn). SaysFound after other l (block_books new other))
        (sym (ap items_or_none (found_last other passed one.0 one.1 (ap (λ n. lookup (is_at (nat_cmp n)) passed) at.1 ∙ not_passed) at.1))) at_other
    | inr away ↦
        let apart : other ≢ id = λ e. away.1 (e ∙ same) in
        let before = says_still told after remains other (places_among passed other) (block_books books other) (says other) in
        let now = subst (λ (b : BlockBooks). SaysFound after other (places_among passed other) b) (sym (keeps other apart)) before in
        subst (λ (l : List FoundOn). SaysFound after other l (block_books new other)) (sym (ap items_or_none (found_before other passed one.0 one.1 away.1))) now
  ]
