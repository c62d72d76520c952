-- How many replicas a volume has, by the places of the Finalised rows.
use Rattle.std.proofs.Common.{◌≡◌, ℕ, zero, suc, ◌+◌, ◌-◌, ◌*◌, ◌^◌, ◌<◌, ◌≤◌, Bool, true, false, cond, eqb, ltb, leb, ◌&&◌, List, [], ◌∷◌, length, get_or, refl, sym, ap, ◌∙◌, arith, inl, inr}
use Rattle.std.specs.Prelude.{sum_by, count_by}
use Rattle.std.proofs.lemmas.Bool.{cases_eq, cases_lt, eq-eqb, ne_eqb, and_from, and_left, and_right, le-leb, lt-leb, lt-ltb, le-ltb}
use Rattle.std.proofs.lemmas.List.Sums.{sum_by-cons}
use Rattle.std.proofs.lemmas.Option.{slice_get_cases}
use Rattle.volume_layout.specs.Places.{block_place}
use Rattle.replica_map.specs.declared.row.Row.{Row}
use Rattle.replica_map.specs.Rising.{Rises, IsPlace, count_between}
use Rattle.replica_map.specs.Counting.{is_final, indexed, row_key, row_replica, leftover_loose}
use Rattle.replica_map.specs.Books.{Books, replicas, loose}
use Rattle.replica_map.specs.Uses.{block_replicas, block_loose, IsSumOf}
use Rattle.replica_map.specs.Kept.{Kept}
use Rattle.replica_map.proofs.RisingLemmas.{count_none}
use Rattle.replica_map.proofs.KeptLemmas.{row_id_fits}
use Rattle.replica_map.proofs.BlockSums.{one_past, one_sum, all_past, all_sum}

-- 1 where it holds
abbrev one_if : Bool → ℕ
one_if b = cond b 1 0

module _ {X : Type 0} where
  -- what passes stands from one index on and below another
  run_of : (p : X → Bool) (xs : List X) (a b : ℕ) → a ≤ b → b ≤ length xs → ((i : ℕ) (d : X) → i < a → p (get_or xs i d) ≡ false) →
      ((i : ℕ) (d : X) → a ≤ i → i < b → p (get_or xs i d) ≡ true) → ((i : ℕ) (d : X) → b ≤ i → i < length xs → p (get_or xs i d) ≡ false) → count_by p xs ≡ b - a
  run_of p [] a b le within before between after = omega (arith, within, le)
  run_of p (x ∷ xs) zero zero le within before between after = count_none p (x ∷ xs) (λ i d l. after i d (omega arith) l)
  run_of p (x ∷ xs) (suc a) zero le within before between after = absurd (omega (arith, le))
  run_of p (x ∷ xs) zero (suc b) le within before between after =
      let one : one_if (p x) ≡ 1 = ap one_if (between zero x (omega arith) (omega arith)) in
      let rest : count_by p xs ≡ b - 0 = run_of p xs zero b (omega arith) (omega (arith, within)) (λ i d l. absurd (omega (arith, l)))
      (λ i d ge l. between (suc i) d (omega arith) (omega (arith, l))) (λ i d ge l. after (suc i) d (omega (arith, ge)) (omega (arith, l))) in
      omega (arith, sum_by-cons (λ y. one_if (p y)) x xs, one, rest)
  run_of p (x ∷ xs) (suc a) (suc b) le within before between after =
      let none : one_if (p x) ≡ 0 = ap one_if (before zero x (omega arith)) in
      let rest : count_by p xs ≡ b - a = run_of p xs a b (omega (arith, le)) (omega (arith, within)) (λ i d l. before (suc i) d (omega (arith, l)))
      (λ i d ge l. between (suc i) d (omega (arith, ge)) (omega (arith, l))) (λ i d ge l. after (suc i) d (omega (arith, ge)) (omega (arith, l))) in
      omega (arith, sum_by-cons (λ y. one_if (p y)) x xs, none, rest)

  -- the place of a lesser number isn't behind that of a greater one
  pub places_order : (key : X → ℕ) (xs : List X) (low high a b : ℕ) → low ≤ high → IsPlace key xs low a → IsPlace key xs high b → a ≤ b
  places_order key xs low high a b order first last = elim (cases_lt b a) [
    | inl lt ↦ elim ((slice_get_cases xs b).1) [
      | inl (x, w, is, at_x) ↦ absurd (omega (arith, first.before b x lt, last.from b x (omega arith) w, order))
      | inr (past, is) ↦ absurd (omega (arith, past, lt, first.within))
    ]
    | inr ge ↦ ge
  ]

  -- so many keys are from one number on and below another
  pub count_range : (key : X → ℕ) (xs : List X) (low high a b : ℕ) → low ≤ high → IsPlace key xs low a → IsPlace key xs high b → count_between key low high xs ≡ b - a
  count_range key xs low high a b order first last =
      run_of (λ y. leb low (key y) && ltb (key y) high) xs a b (places_order key xs low high a b order first last) last.within
      (λ i d l. and_left (leb low (key (get_or xs i d))) (ltb (key (get_or xs i d)) high) (lt-leb _ _ (first.before i d l)))
      (λ i d ge l. and_from (leb low (key (get_or xs i d))) (ltb (key (get_or xs i d)) high)
      (le-leb _ _ (first.from i d ge (omega (arith, l, last.within)))) (lt-ltb _ _ (last.before i d l)))
      (λ i d ge l. and_right (leb low (key (get_or xs i d))) (ltb (key (get_or xs i d)) high) (le-ltb _ _ (last.from i d ge l)))

  -- sums of what is the same of each item
  pub same_sums : (f g : X → ℕ) (xs : List X) → ((i : ℕ) (d : X) → i < length xs → f (get_or xs i d) ≡ g (get_or xs i d)) → sum_by f xs ≡ sum_by g xs
  same_sums f g [] same = refl
  same_sums f g (x ∷ xs) same =
      omega (arith, sum_by-cons f x xs, sum_by-cons g x xs, same zero x (omega arith), same_sums f g xs (λ i d l. same (suc i) d (omega (arith, l))))

-- a number is one of a volume's places
abbrev is_of_volume : ℕ → ℕ → Bool
is_of_volume vol n = leb (vol * 2 ^ 80) n && ltb n (vol * 2 ^ 80 + 2 ^ 80)

by_final : (final : Bool) (vol v key rest : ℕ) → key ≡ v * 2 ^ 80 + rest → rest < 2 ^ 80 → cond final (one_if (is_of_volume vol key)) 0 ≡ one_if (final && eqb v vol)
by_final false vol v key rest is small = refl
by_final true vol v key rest is small = elim (cases_eq v vol) [
  | inl same ↦
      let inside : is_of_volume vol key ≡ true = and_from (leb (vol * 2 ^ 80) key) (ltb key (vol * 2 ^ 80 + 2 ^ 80))
      (le-leb _ _ (omega (arith, is, same))) (lt-ltb _ _ (omega (arith, is, same, small))) in
      ap one_if inside ∙ sym (ap one_if (eq-eqb v vol same))
  | inr other ↦ elim (cases_lt v vol) [
    | inl lt ↦ ap one_if (and_left (leb (vol * 2 ^ 80) key) (ltb key (vol * 2 ^ 80 + 2 ^ 80)) (lt-leb _ _ (omega (arith, is, lt, small)))) ∙ sym (ap one_if (ne_eqb v vol other))
    | inr ge ↦
        let above : vol < v = omega (arith, ge, other) in
        ap one_if (and_right (leb (vol * 2 ^ 80) key) (ltb key (vol * 2 ^ 80 + 2 ^ 80)) (le-ltb _ _ (omega (arith, is, above)))) ∙ sym (ap one_if (ne_eqb v vol other))
  ]
]

one_row : (vol : ℕ) (row : Row) → row.entry.id < 2 ^ 64 → indexed (λ n. one_if (is_of_volume vol n)) row ≡ row_replica vol row
one_row vol row fits =
    let place = block_place row.entry.id in
    by_final (is_final row.entry.state) vol row.entry.vol (row_key row) ((place.d1 * 256 + place.d2) * 2 ^ 64 + place.id) (omega arith) (omega (arith, fits))

-- the places of a volume are those of its replicas
pub replicas_are : (books : Books) (vol : ℕ) {keys : List ℕ} {room : ℕ} {sums : List ℕ} {writers : ℕ} → Kept books.rows books.leftovers books.tickets keys room sums writers →
    count_between (λ n. n) (vol * 2 ^ 80) (vol * 2 ^ 80 + 2 ^ 80) keys ≡ replicas vol books
replicas_are books vol k =
    k.places (λ n. one_if (is_of_volume vol n))
    ∙ same_sums (indexed (λ n. one_if (is_of_volume vol n))) (row_replica vol) books.rows (λ i d l. one_row vol (get_or books.rows i d) (row_id_fits k i d l))

-- the replicas of all blocks, and their leftovers that aren't held
pub replicas_sum : (vol : ℕ) (books : Books) → Rises (λ row. row.entry.id) books.rows → IsSumOf (block_replicas vol books) (replicas vol books)
replicas_sum vol books rows =
    let n : ℕ = sum_by (λ row. row.entry.id) books.rows + 1 in
    record {
      bound = n;
      past = λ k l. one_past (λ row. row.entry.id) (row_replica vol) books.rows k (omega (arith, l));
      is = sym (one_sum (λ row. row.entry.id) (row_replica vol) n books.rows rows (omega arith));
    }

pub loose_sum : (books : Books) → IsSumOf (block_loose books) (loose books)
loose_sum books =
    let n : ℕ = sum_by (λ leftover. leftover.id) books.leftovers + 1 in
    record {
      bound = n;
      past = λ k l. all_past (λ leftover. leftover.id) leftover_loose books.leftovers k (omega (arith, l));
      is = sym (all_sum (λ leftover. leftover.id) leftover_loose n books.leftovers (omega arith));
    }
