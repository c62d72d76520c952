-- Sums over the numbers below a bound, and what the books count as the sum of what their blocks count.
use Rattle.std.proofs.Common.{◌≡◌, ◌≢◌, ℕ, zero, suc, ◌+◌, ◌<◌, ◌≤◌, List, [], ◌∷◌, get_or, None, refl, sym, ap, ◌∙◌, arith, inl, inr}
use Rattle.std.specs.Prelude.{find, filter, sum_by}
use Rattle.std.proofs.lemmas.Bool.{cases_eq, cases_lt, eq-eqb, ne_eqb}
use Rattle.std.proofs.lemmas.List.Sums.{sum_by-cons, get_or-le-sum_by}
use Rattle.replica_map.specs.Counting.{row_use, leftover_use, ticket_use}
use Rattle.replica_map.specs.Rising.{Rises, has_key}
use Rattle.replica_map.specs.Books.{Books, used}
use Rattle.replica_map.specs.Uses.{of_some, block_use, sum_below, IsSumOf, SumsAreUnique}
use Rattle.replica_map.proofs.RisingLemmas.{nowhere}

-- functions that agree below the bound
below_by : (n : ℕ) (f g : ℕ → ℕ) → ((i : ℕ) → i < n → f i ≡ g i) → sum_below n f ≡ sum_below n g
below_by zero f g h = refl
below_by (suc n) f g h = omega (arith, below_by n f g (λ i l. h i (omega arith)), h n (omega arith))

below_zero : (n : ℕ) (f : ℕ → ℕ) → ((i : ℕ) → f i ≡ 0) → sum_below n f ≡ 0
below_zero zero f h = refl
below_zero (suc n) f h = omega (arith, below_zero n f h, h n)

-- where a function is 0 it adds nothing
below_past : (m n : ℕ) (f : ℕ → ℕ) → m ≤ n → ((i : ℕ) → m ≤ i → f i ≡ 0) → sum_below n f ≡ sum_below m f
below_past m zero f le h = ap (λ k. sum_below k f) (let e : 0 ≡ m = omega arith in e)
below_past m (suc n) f le h =
    elim (cases_lt n m) [
      | inl lt ↦ ap (λ k. sum_below k f) (let e : suc n ≡ m = omega arith in e)
      | inr ge ↦ omega (arith, below_past m n f ge h, h n ge)
    ]

-- one function is more than another at one number alone
below_more : (n : ℕ) (f g : ℕ → ℕ) (k more : ℕ) → k < n → g k ≡ f k + more → ((i : ℕ) → i ≢ k → g i ≡ f i) → sum_below n g ≡ sum_below n f + more
below_more zero f g k more l own other = absurd (omega arith)
below_more (suc n) f g k more l own other =
    elim (cases_eq k n) [
      | inl same ↦ (let front : sum_below n g ≡ sum_below n f = below_by n g f (λ i lt. other i (λ e. omega arith)) in
          let last : g n ≡ f n + more = ap g (sym same) ∙ (own ∙ ap (λ j. f j + more) same) in
          omega arith)
      | inr ne ↦ omega (arith, below_more n f g k more (omega arith) own other, other n (λ e. ne (sym e)))
    ]

below_added : (n : ℕ) (f g h : ℕ → ℕ) → sum_below n (λ i. f i + g i + h i) ≡ sum_below n f + sum_below n g + sum_below n h
below_added zero f g h = refl
below_added (suc n) f g h = omega (arith, below_added n f g h)

-- a function has one sum
pub sums_same : {f : ℕ → ℕ} {m n : ℕ} → IsSumOf f m → IsSumOf f n → m ≡ n
sums_same {f = f} a b =
    elim (cases_lt a.bound b.bound) [
      | inl lt ↦ omega (arith, a.is, b.is, below_past a.bound b.bound f (omega arith) a.past)
      | inr ge ↦ omega (arith, a.is, b.is, below_past b.bound a.bound f ge b.past)
    ]

pub sums_are_unique : SumsAreUnique
sums_are_unique f sum other a b = sums_same a b

-- functions that agree have the same sum
pub sums_by : {f g : ℕ → ℕ} {m : ℕ} → ((n : ℕ) → f n ≡ g n) → IsSumOf f m → IsSumOf g m
sums_by {f = f} {g = g} same s = record {
  bound = s.bound;
  past = λ n l. sym (same n) ∙ s.past n l;
  is = s.is ∙ below_by s.bound f g (λ i l. same i);
}

module _ {X : Type 0} (key count : X → ℕ) where
  -- what the item with a key counts
  abbrev pub one_use : List X → ℕ → ℕ
  one_use xs k = of_some count (find (has_key key k) xs)

  -- what the items with a key count
  abbrev pub all_uses : List X → ℕ → ℕ
  all_uses xs k = sum_by count (filter (has_key key k) xs)

  rises_rest : (x : X) (xs : List X) → Rises key (x ∷ xs) → Rises key xs
  rises_rest x xs up i j d lt l = up (suc i) (suc j) d (omega arith) (omega arith)

  -- the first item's key comes once
  once : (x : X) (xs : List X) → Rises key (x ∷ xs) → find (has_key key (key x)) xs ≡ None
  once x xs up =
      nowhere (has_key key (key x)) xs (λ i d l. ne_eqb _ _ (λ e.
      let above : key x < key (get_or xs i d) = up zero (suc i) d (omega arith) (omega arith) in omega arith))

  pub one_past : (xs : List X) (k : ℕ) → sum_by key xs < k → one_use xs k ≡ 0
  one_past xs k l =
      let absent : find (has_key key k) xs ≡ None =
      nowhere (has_key key k) xs (λ i d w. ne_eqb _ _ (λ e. omega (arith, get_or-le-sum_by key xs i d w))) in
      ap (of_some count) absent

  pub one_sum : (n : ℕ) (xs : List X) → Rises key xs → sum_by key xs < n → sum_below n (one_use xs) ≡ sum_by count xs
  one_sum n [] up l = below_zero n (λ k. 0) (λ k. refl)
  one_sum n (x ∷ xs) up l =
      let more : sum_below n (one_use (x ∷ xs)) ≡ sum_below n (one_use xs) + count x =
      below_more n (one_use xs) (one_use (x ∷ xs)) (key x) (count x) (omega (arith, sum_by-cons key x xs))
      (rw (eq-eqb (key x) (key x) refl, once x xs up) (omega arith))
      (λ k other. rw (ne_eqb (key x) k (λ e. other (sym e))) refl) in
      omega (arith, sum_by-cons count x xs, sum_by-cons key x xs, one_sum n xs (rises_rest x xs up) (omega (arith, sum_by-cons key x xs)))

  pub all_past : (xs : List X) (k : ℕ) → sum_by key xs < k → all_uses xs k ≡ 0
  all_past [] k l = refl
  all_past (x ∷ xs) k l =
      rw (ne_eqb (key x) k (λ e. omega (arith, sum_by-cons key x xs))) (all_past xs k (omega (arith, sum_by-cons key x xs)))

  pub all_sum : (n : ℕ) (xs : List X) → sum_by key xs < n → sum_below n (all_uses xs) ≡ sum_by count xs
  all_sum n [] l = below_zero n (λ k. 0) (λ k. refl)
  all_sum n (x ∷ xs) l =
      let more : sum_below n (all_uses (x ∷ xs)) ≡ sum_below n (all_uses xs) + count x =
      below_more n (all_uses xs) (all_uses (x ∷ xs)) (key x) (count x) (omega (arith, sum_by-cons key x xs))
      (rw (eq-eqb (key x) (key x) refl) (omega (arith, sum_by-cons count x (filter (has_key key (key x)) xs))))
      (λ k other. rw (ne_eqb (key x) k (λ e. other (sym e))) refl) in
      omega (arith, sum_by-cons count x xs, sum_by-cons key x xs, all_sum n xs (omega (arith, sum_by-cons key x xs)))

-- what the books count on a volume is the sum of what their blocks count there
pub blocks_sum : (vol : ℕ) (books : Books) → Rises (λ row. row.entry.id) books.rows → Rises (λ ticket. ticket.id) books.tickets → IsSumOf (block_use vol books) (used vol books)
blocks_sum vol books rows tickets =
    let n : ℕ = sum_by (λ row. row.entry.id) books.rows + sum_by (λ leftover. leftover.id) books.leftovers + sum_by (λ ticket. ticket.id) books.tickets + 1 in
    record {
      bound = n;
      past = λ k l. omega (
        arith,
        one_past (λ row. row.entry.id) (row_use vol) books.rows k (omega arith),
        all_past (λ leftover. leftover.id) (leftover_use vol) books.leftovers k (omega arith),
        one_past (λ ticket. ticket.id) (ticket_use vol) books.tickets k (omega arith),
      );
      is = omega (
        arith,
        below_added n (one_use (λ row. row.entry.id) (row_use vol) books.rows) (all_uses (λ leftover. leftover.id) (leftover_use vol) books.leftovers) (one_use (λ ticket. ticket.id) (ticket_use vol) books.tickets),
        one_sum (λ row. row.entry.id) (row_use vol) n books.rows rows (omega arith),
        all_sum (λ leftover. leftover.id) (leftover_use vol) n books.leftovers (omega arith),
        one_sum (λ ticket. ticket.id) (ticket_use vol) n books.tickets tickets (omega arith),
      );
    }
