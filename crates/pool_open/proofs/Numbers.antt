-- Revisions that are drawn one after the other, for blocks in ascending id.
use Rattle.std.proofs.Common.{◌≡◌, ◌≢◌, ◌⊎◌, ℕ, zero, suc, ◌+◌, ◌<◌, ◌≤◌, List, [], ◌∷◌, ◌++◌, Option, None, Some, refl, sym, ap, ◌∙◌, subst, inl, inr, arith}
use Rattle.std.specs.Prelude.{IfSome}
use Rattle.std.specs.List.{AllByRecursion}
use Rattle.std.specs.List.Sorted.{IsStrictlySortedBy}
use Rattle.std.specs.Ordering.{nat_cmp}
use Rattle.std.specs.Map.{keys_of}
use Rattle.std.specs.declared.alloc.Global.{Global}
use Rattle.std.specs.declared.vec.Vec.{Vec}
use Rattle.std.proofs.lemmas.Bool.{cases_eq, cases_lt}
use Rattle.std.proofs.lemmas.Option.{same_Some}
use Rattle.map_model.specs.Stands.{Entry, BlockBooks}
use Rattle.replica_map.specs.Uses.{sum_below}
use Rattle.pool_survey.specs.declared.places.FoundOn.{FoundOn}
use Rattle.pool_open.specs.Numbering.{one_for, entries_of, entries_below, IsNumbered}
use Rattle.pool_open.proofs.Rows.{key_below}

-- functions that agree below the bound
below_by : (n : ℕ) (f g : ℕ → ℕ) → ((i : ℕ) → i < n → f i ≡ g i) → sum_below n f ≡ sum_below n g
below_by zero f g h = refl
below_by (suc n) f g h = omega (arith, below_by n f g (λ i l. h i (omega arith)), h n (omega arith))

-- where a function is 0 it adds nothing
below_past : (m n : ℕ) (f : ℕ → ℕ) → m ≤ n → ((i : ℕ) → m ≤ i → f i ≡ 0) → sum_below n f ≡ sum_below m f
below_past m zero f le h = ap (λ k. sum_below k f) (let e : 0 ≡ m = omega arith in e)
below_past m (suc n) f le h =
    elim (cases_lt n m) [
      | inl lt ↦ ap (λ k. sum_below k f) (let e : suc n ≡ m = omega arith in e)
      | inr ge ↦ omega (arith, below_past m n f ge h, h n ge)
    ]

one_further : (n : ℕ) (f : ℕ → ℕ) → sum_below (n + 1) f ≡ sum_below n f + f n
one_further n f = ap (λ k. sum_below k f) (let e : n + 1 ≡ suc n = omega arith in e)

-- an entry has the revision that its place asks for
abbrev IsDrawn : ℕ → (ℕ → BlockBooks) → ℕ → Option Entry → Type 0
IsDrawn first books id found = IfSome found (λ (entry : Entry). entry.rev ≡ first + entries_below books id)

-- the ids of the entries that are left aren't below the bound
abbrev IsFrom : ℕ → List (ℕ × Vec FoundOn Global) → Type 0
IsFrom bound left = AllByRecursion (λ key. bound ≤ key) (keys_of left)

-- so many entries were made, with revisions from the first one on
pub record Drawn (first : ℕ) (books : ℕ → BlockBooks) (count : ℕ) (left : List (ℕ × Vec FoundOn Global)) : Type 0 where
  pub each : (id : ℕ) → IsDrawn first books id (books id).entry
  pub bound : ℕ
  pub past : (id : ℕ) → bound ≤ id → entries_of (books id) ≡ 0
  pub is : count ≡ entries_below books bound
  pub from : IsFrom bound left

all_from_none : (keys : List ℕ) → AllByRecursion (λ key. 0 ≤ key) keys
all_from_none [] = tt
all_from_none (key ∷ keys) = (omega arith, all_from_none keys)

none_drawn : (first : ℕ) (books : ℕ → BlockBooks) (id : ℕ) (found : Option Entry) → found ≡ None → IsDrawn first books id found
none_drawn first books id None none = tt
none_drawn first books id (Some entry) none = (let bad : Some entry ≡ None = none in absurd cc)

none_counted : (found : Option Entry) → found ≡ None → one_for found ≡ 0
none_counted None none = refl
none_counted (Some entry) none = (let bad : Some entry ≡ None = none in absurd cc)

counted_none : (found : Option Entry) → one_for found ≡ 0 → found ≡ None
counted_none None is = refl
counted_none (Some entry) is = (let bad : 1 ≡ 0 = is in absurd (omega (arith, bad)))

pub drawn_none : (first : ℕ) (books : ℕ → BlockBooks) (count : ℕ) (left : List (ℕ × Vec FoundOn Global)) → count ≡ 0 → ((id : ℕ) → (books id).entry ≡ None) → Drawn first books count left
drawn_none first books count left is nothing = record {
  each = λ id. none_drawn first books id (books id).entry (nothing id);
  bound = 0;
  past = λ id later. none_counted (books id).entry (nothing id);
  is = is;
  from = all_from_none (keys_of left);
}

pub drawn_all : (first : ℕ) (books : ℕ → BlockBooks) (count : ℕ) (left : List (ℕ × Vec FoundOn Global)) → Drawn first books count left → IsNumbered first books (first + count)
drawn_all first books count left drawn = record {
  each = drawn.each;
  count = count;
  all = record { bound = drawn.bound; past = drawn.past; is = drawn.is };
  next_is = refl;
}

all_more : (bound : ℕ) (keys : List ℕ) → AllByRecursion (λ key. bound < key) keys → AllByRecursion (λ key. bound + 1 ≤ key) keys
all_more bound [] all = tt
all_more bound (key ∷ keys) all = (omega (arith, all.0), all_more bound keys all.1)

-- a block has no entry, or the next revision
abbrev pub DrawsNext : (count next rev : ℕ) → Option Entry → Type 0
DrawsNext count next rev found = ((found ≡ None) × (next ≡ count)) ⊎ ((entry : Entry) × (found ≡ Some entry) × (entry.rev ≡ rev) × (next ≡ count + 1))

-- one more block
module _ (first : ℕ) (books new : ℕ → BlockBooks) (count next rev : ℕ) (es passed left rest : List (ℕ × Vec FoundOn Global)) (one : ℕ × Vec FoundOn Global) (id : ℕ)
    (is : left ≡ one ∷ rest) (split : passed ++ left ≡ es) (sorted : IsStrictlySortedBy nat_cmp (keys_of es)) (same : id ≡ one.0)
    (drawn : Drawn first books count left) (keeps : (other : ℕ) → other ≢ id → new other ≡ books other)
    (draws : DrawsNext count next rev (new id).entry) (rev_is : rev ≡ first + count) where
  bound_below : drawn.bound ≤ id
  bound_below =
      let from : IsFrom drawn.bound (one ∷ rest) = subst (IsFrom drawn.bound) is drawn.from in
      omega (arith, from.0, same)

  count_same : (other : ℕ) → other ≢ id → entries_of (new other) ≡ entries_of (books other)
  count_same other apart = ap entries_of (keeps other apart)

  below_same : (n : ℕ) → n ≤ id → entries_below new n ≡ entries_below books n
  below_same n low = below_by n (λ other. entries_of (new other)) (λ other. entries_of (books other)) (λ i below. count_same i (λ e. absurd (omega (arith, below, low, e))))

  count_here : entries_below new id ≡ count
  count_here =
      let all : entries_below books id ≡ entries_below books drawn.bound = below_past drawn.bound id (λ other. entries_of (books other)) bound_below drawn.past in
      below_same id (omega arith) ∙ all ∙ sym drawn.is

  here_by : (found : Option Entry) → DrawsNext count next rev found → IsDrawn first new id found
  here_by None draws = tt
  here_by (Some entry) (inl none) = (let bad : Some entry ≡ None = none.0 in absurd cc)
  here_by (Some entry) (inr some) =
      let own : Some entry ≡ Some some.0 = some.1 in
      let rev_same : entry.rev ≡ some.0.rev = ap (λ (e : Entry). e.rev) (same_Some entry some.0 own) in
      omega (arith, rev_same, some.2, rev_is, count_here)

  next_by : (found : Option Entry) → DrawsNext count next rev found → next ≡ count + one_for found
  next_by found (inl none) = omega (arith, none.1, none_counted found none.0)
  next_by found (inr some) =
      let one : one_for found ≡ 1 = ap one_for some.1 in
      omega (arith, some.3, one)

  other_by : (other : ℕ) → other ≢ id → (found : Option Entry) → found ≡ (books other).entry → IsDrawn first books other found → IsDrawn first new other found
  other_by other apart None found_is was = tt
  other_by other apart (Some entry) found_is was = elim (cases_lt other id) [
    | inl lower ↦ omega (arith, was, below_same other (omega (arith, lower)))
    | inr higher ↦
        let zero_there : one_for (books other).entry ≡ 0 = drawn.past other (omega (arith, higher, bound_below)) in
        let bad : Some entry ≡ None = found_is ∙ counted_none (books other).entry zero_there in
        absurd cc
  ]

  each_new : (other : ℕ) → IsDrawn first new other (new other).entry
  each_new other = elim (cases_eq other id) [
    | inl at ↦ subst (λ n. IsDrawn first new n (new n).entry) (sym at) (here_by (new id).entry draws)
    | inr apart ↦ subst (λ (b : BlockBooks). IsDrawn first new other b.entry) (sym (keeps other apart)) (other_by other apart (books other).entry refl (drawn.each other))
  ]

  pub drawn_more : Drawn first new next rest
  drawn_more = record {
    each = each_new;
    bound = id + 1;
    past = λ other later.
        let apart : other ≢ id = λ e. absurd (omega (arith, later, e)) in
        count_same other apart ∙ drawn.past other (omega (arith, later, bound_below));
    is = omega (arith, next_by (new id).entry draws, count_here, one_further id (λ other. entries_of (new other)));
    from =
        let whole : passed ++ one ∷ rest ≡ es = sym (ap (λ l. passed ++ l) is) ∙ split in
        let after : AllByRecursion (λ key. one.0 < key) (keys_of rest) =
        key_below passed one rest (subst (λ (l : List (ℕ × Vec FoundOn Global)). IsStrictlySortedBy nat_cmp (keys_of l)) (sym whole) sorted) in
        subst (λ n. AllByRecursion (λ key. n + 1 ≤ key) (keys_of rest)) (sym same) (all_more one.0 (keys_of rest) after);
  }
