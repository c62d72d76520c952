-- The order of density, and the first volume of some.
use Rattle.std.proofs.Common.{◌≡◌, ℕ, ◌+◌, ◌*◌, ◌<◌, ◌≤◌, true, false, List, arith, below_more, refl, suc, [], ◌∷◌, length}
use Rattle.std.specs.List.{list_any}
use Rattle.std.proofs.lemmas.Grind.{common_steps}
use Rattle.greedy_planner.specs.declared.volume.Totals.{Totals}
use Rattle.greedy_planner.specs.Greedy.{is_open_past, goes_on}
use Rattle.std.proofs.Math.Nat.{mul-le-mul_left, mul-lt-mul_of_pos_left, lt_of_mul-lt-mul_left}
use Rattle.std.proofs.lemmas.Bool.{ltb-true, lt-ltb, le-ltb, ltb-false}
use Rattle.greedy_planner.specs.declared.volume.Volume.{Volume}
use Rattle.greedy_planner.specs.declared.volume.Side.{Side}
use Rattle.greedy_planner.specs.declared.volume.Side.TheVariants.{Low, High}
use Rattle.greedy_planner.specs.Volumes.{volume_at, comes_before, IsFirstBelow}

-- three shares, by their products: of c, b and a, the first less than the second, that at most the third
pub shares_in_order : (a b c x y z : ℕ) → 0 < y → 0 < z → c * y < b * x → b * z ≤ a * y → c * z < a * x
shares_in_order a b c x y z py pz less most =
    let left : z * (c * y) < z * (b * x) = mul-lt-mul_of_pos_left less pz in
    let right : x * (b * z) ≤ x * (a * y) = mul-le-mul_left x most in
    let both : y * (c * z) < y * (a * x) = omega arith in
    lt_of_mul-lt-mul_left y both

-- the same, the first at most the second
pub shares_in_order_from_left : (a b c x y z : ℕ) → 0 < y → 0 < x → c * y ≤ b * x → b * z < a * y → c * z < a * x
shares_in_order_from_left a b c x y z py px most less =
    let left : z * (c * y) ≤ z * (b * x) = mul-le-mul_left z most in
    let right : x * (b * z) < x * (a * y) = mul-lt-mul_of_pos_left less px in
    let both : y * (c * z) < y * (a * x) = omega arith in
    lt_of_mul-lt-mul_left y both

-- v comes before w, and x doesn't: so v comes before x
pub before_and_not : (side : Side) (v w x : Volume) → 0 < v.capacity → 0 < w.capacity → 0 < x.capacity
    → comes_before side v w ≡ true → comes_before side x w ≡ false → comes_before side v x ≡ true
before_and_not Low v w x pv pw px vw xw =
    lt-ltb _ _ (shares_in_order x.used w.used v.used v.capacity w.capacity x.capacity pw px (ltb-true _ _ vw) (ltb-false _ _ xw))
before_and_not High v w x pv pw px vw xw =
    lt-ltb _ _ (shares_in_order_from_left v.used w.used x.used x.capacity w.capacity v.capacity pw px (ltb-false _ _ xw) (ltb-true _ _ vw))

-- of two volumes one at most comes before the other
pub not_before : (side : Side) (v w : Volume) → comes_before side v w ≡ true → comes_before side w v ≡ false
not_before Low v w h = le-ltb _ _ (omega (arith, ltb-true _ _ h))
not_before High v w h = le-ltb _ _ (omega (arith, ltb-true _ _ h))

-- none comes before itself
pub not_before_itself : (side : Side) (v : Volume) → comes_before side v v ≡ false
not_before_itself Low v = le-ltb _ _ (omega arith)
not_before_itself High v = le-ltb _ _ (omega arith)

-- a volume that comes before the first one found is the first, with itself
pub first_before : (side : Side) (s : List Volume) (end best i : ℕ) → ((k : ℕ) → k < end → 0 < (volume_at s k).capacity)
    → i < end → IsFirstBelow side s i best → (volume_at s i).skipped ≡ false
    → comes_before side (volume_at s i) (volume_at s best) ≡ true → IsFirstBelow side s (i + 1) i
first_before side s end best i capacities inside first unskipped before =
    let at_best : best < i = first.inside in
    let i_before : (k : ℕ) → k < i → (volume_at s k).skipped ≡ false → comes_before side (volume_at s i) (volume_at s k) ≡ true =
    λ k h o. before_and_not side (volume_at s i) (volume_at s best) (volume_at s k)
    (capacities i inside) (capacities best (omega arith)) (capacities k (omega arith)) before (first.foremost k h o) in
    record {
      inside = omega arith;
      unskipped = unskipped;
      foremost = below_more _ _ (λ k h o. not_before side (volume_at s i) (volume_at s k) (i_before k h o)) (λ o. not_before_itself side (volume_at s i));
      lowest = i_before;
    }

-- where all are skipped, none is past the threshold without being skipped
pub none_past : (totals : Totals) (threshold : ℕ) (s : List Volume) → ((k : ℕ) → k < length s → (volume_at s k).skipped ≡ true)
    → list_any (is_open_past totals threshold) s ≡ false
none_past totals threshold [] all = refl
none_past totals threshold (v ∷ s) all =
    let first : v.skipped ≡ true = all 0 (omega arith) in
    let rest : list_any (is_open_past totals threshold) s ≡ false = none_past totals threshold s (λ k h. all (suc k) (omega arith)) in
    grind (arith, common_steps)

-- so the plan doesn't go on
pub none_left : (totals : Totals) (threshold : ℕ) (s : List Volume) → ((k : ℕ) → k < length s → (volume_at s k).skipped ≡ true)
    → goes_on totals threshold s ≡ true → ⊥
none_left totals threshold s all goes =
    let none = none_past totals threshold s all in
    grind (arith, common_steps)
