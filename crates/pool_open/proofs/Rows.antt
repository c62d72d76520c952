-- Rows that are put by ascending ids rise, and have no writer.
use Rattle.std.proofs.Common.{◌≡◌, ℕ, ◌<◌, ◌+◌, List, [], ◌∷◌, ◌++◌, length, get_or, refl, ap, sym, ◌∙◌, subst, inl, inr, All, arith}
use Rattle.std.specs.Prelude.{count_by}
use Rattle.std.specs.List.{AllByRecursion}
use Rattle.std.specs.List.Sorted.{IsStrictlySortedBy}
use Rattle.std.specs.Ordering.{nat_cmp}
use Rattle.std.specs.Map.{keys_of}
use Rattle.std.specs.declared.alloc.Global.{Global}
use Rattle.std.specs.declared.vec.Vec.{Vec}
use Rattle.std.specs.declared.cmp.Ordering.TheVariants.{Less}
use Rattle.std.proofs.lemmas.Bool.{cases_lt}
use Rattle.std.proofs.lemmas.Cmp.{ranked}
use Rattle.std.proofs.Math.Seq.{get_or-append_seam}
use Rattle.std.proofs.lemmas.List.{length-append, get_or_append_left}
use Rattle.std.proofs.lemmas.List.Elements.{All-append, All-cons, All-nil, All-weaker, All-get_or}
use Rattle.std.proofs.lemmas.List.Sums.{sum_by-append}
use Rattle.replica_map.specs.declared.row.Row.{Row}
use Rattle.replica_map.specs.Counting.{is_writing}
use Rattle.replica_map.specs.Rising.{Rises}
use Rattle.pool_survey.specs.declared.places.FoundOn.{FoundOn}
use Rattle.pool_open.specs.Found.{AddsRow, MayAddRow}

-- the id is below those of these entries
abbrev pub IsBelow : List (ℕ × Vec FoundOn Global) → ℕ → Type 0
IsBelow left id = AllByRecursion (λ key. id < key) (keys_of left)

-- the ids of the rows rise and are below those of the entries that are left, and no row has a writer
pub record RowsRise (rows : List Row) (left : List (ℕ × Vec FoundOn Global)) : Type 0 where
  pub rises : Rises (λ row. row.entry.id) rows
  pub below : All (λ (row : Row). IsBelow left row.entry.id) rows
  pub idle : count_by (λ row. is_writing row.entry.state) rows ≡ 0

pub no_rows : (rows : List Row) (left : List (ℕ × Vec FoundOn Global)) → rows ≡ [] → RowsRise rows left
no_rows rows left none = subst (λ (r : List Row). RowsRise r left) (sym none)
    (record { rises = λ i j d less within. absurd (omega (arith, within)); below = All-nil _; idle = refl })

all_less : (key : ℕ) (keys : List ℕ) → AllByRecursion (λ k. nat_cmp key k ≡ Less) keys → AllByRecursion (λ k. key < k) keys
all_less key [] less = less
all_less key (k ∷ keys) less = (ranked key k Less (sym less.0), all_less key keys less.1)

-- an entry's id is below those after it
pub key_below : (passed : List (ℕ × Vec FoundOn Global)) (one : ℕ × Vec FoundOn Global) (rest : List (ℕ × Vec FoundOn Global)) → IsStrictlySortedBy nat_cmp (keys_of (passed ++ one ∷ rest)) → IsBelow rest one.0
unfolding IsStrictlySortedBy
key_below [] one rest sorted = all_less one.0 (keys_of rest) sorted.0
key_below (p ∷ passed) one rest sorted = key_below passed one rest sorted.1

last_row : (rows : List Row) (row d : Row) (j : ℕ) → length rows ≡ j → get_or (rows ++ row ∷ []) j d ≡ row
last_row rows row d j is = subst (λ n. get_or (rows ++ row ∷ []) n d ≡ row) is (get_or-append_seam rows row [] d)

rises_put : (rows : List Row) (row : Row) → Rises (λ r. r.entry.id) rows → All (λ (r : Row). r.entry.id < row.entry.id) rows → Rises (λ r. r.entry.id) (rows ++ row ∷ [])
rises_put rows row up below i j d less within =
    let len : length (rows ++ row ∷ []) ≡ length rows + 1 = length-append rows (row ∷ []) in
    let i_in : i < length rows = omega (arith, less, within, len) in
    let at_i = get_or_append_left rows (row ∷ []) d i i_in in
    elim (cases_lt j (length rows)) [
      | inl j_in ↦ (let at_j = get_or_append_left rows (row ∷ []) d j j_in in
          omega (arith, ap (λ (r : Row). r.entry.id) at_i, ap (λ (r : Row). r.entry.id) at_j, up i j d less j_in))
      | inr past ↦ (let at_j = last_row rows row d j (omega (arith, past, within, len)) in
          omega (arith, ap (λ (r : Row). r.entry.id) at_i, ap (λ (r : Row). r.entry.id) at_j, All-get_or (λ (r : Row). r.entry.id < row.entry.id) rows i d i_in below))
    ]

-- one more entry was passed
module _ (es passed left rest : List (ℕ × Vec FoundOn Global)) (one : ℕ × Vec FoundOn Global) (id rev : ℕ) (is : left ≡ one ∷ rest) (split : passed ++ left ≡ es)
    (sorted : IsStrictlySortedBy nat_cmp (keys_of es)) (same : id ≡ one.0) where
  one_below : IsBelow rest one.0
  one_below =
      let whole : passed ++ one ∷ rest ≡ es = sym (ap (λ l. passed ++ l) is) ∙ split in
      key_below passed one rest (subst (λ (l : List (ℕ × Vec FoundOn Global)). IsStrictlySortedBy nat_cmp (keys_of l)) (sym whole) sorted)

  module _ (rows new : List Row) (rise : RowsRise rows left) where
    below_one : All (λ (row : Row). IsBelow (one ∷ rest) row.entry.id) rows
    below_one = subst (λ (l : List (ℕ × Vec FoundOn Global)). All (λ (row : Row). IsBelow l row.entry.id) rows) is rise.below

    still_below : All (λ (row : Row). IsBelow rest row.entry.id) rows
    still_below = All-weaker (λ (row : Row). IsBelow (one ∷ rest) row.entry.id) (λ (row : Row). IsBelow rest row.entry.id) (λ row below. below.1) rows below_one

    less_than_one : (row : Row) → row.entry.id ≡ id → All (λ (r : Row). r.entry.id < row.entry.id) rows
    less_than_one row own = All-weaker (λ (r : Row). IsBelow (one ∷ rest) r.entry.id) (λ (r : Row). r.entry.id < row.entry.id)
        (λ r below. omega (arith, below.0, own, same)) rows below_one

    rise_put : AddsRow id rev rows new → RowsRise new rest
    rise_put adds = subst (λ (r : List Row). RowsRise r rest) (sym adds.is) (record {
      rises = rises_put rows adds.row rise.rises (less_than_one adds.row adds.own);
      below = All-append (λ (row : Row). IsBelow rest row.entry.id) rows (adds.row ∷ []) still_below
          (All-cons (λ (row : Row). IsBelow rest row.entry.id) adds.row [] (subst (IsBelow rest) (sym (adds.own ∙ same)) one_below) (All-nil _));
      idle = sum_by-append _ rows (adds.row ∷ []) ∙ rw (rise.idle, adds.idle) refl;
    })

    pub rise_more : MayAddRow id rev rows new → RowsRise new rest
    rise_more (inl none) = subst (λ (r : List Row). RowsRise r rest) (sym none) (record { rises = rise.rises; below = still_below; idle = rise.idle })
    rise_more (inr adds) = rise_put adds
