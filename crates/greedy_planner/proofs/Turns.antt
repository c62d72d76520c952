-- What one turn does to the volumes: the sums over them, their limits, and their used bytes.
use Rattle.std.proofs.Common.{◌≡◌, ◌≢◌, ◌∙◌, inl, inr, sym, ap, subst, ℕ, ◌+◌, ◌-◌, ◌*◌, ◌<◌, ◌≤◌, ◌^◌, true, false, Bool, cond, List, length, set, map, arith, refl}
use Rattle.std.specs.Prelude.{◌==◌, ◌||◌, min}
use Rattle.std.specs.List.{sum_by}
use Rattle.std.proofs.lemmas.List.{get_or-set_same, get_or-set_other, length-set}
use Rattle.std.proofs.Math.Seq.{map-set_same}
use Rattle.std.proofs.Math.Nat.{mul-le-mul_left, le_of_mul-le-mul_left}
use Rattle.std.proofs.lemmas.List.Sums.{sum_by-set}
use Rattle.std.proofs.lemmas.Bool.{cases_eq}
use Rattle.std.proofs.lemmas.Bool.Decides.{nat_tests}
use Rattle.std.proofs.lemmas.Grind.{common_steps}
use Rattle.greedy_planner.specs.declared.volume.Volume.{Volume}
use Rattle.greedy_planner.specs.declared.volume.Totals.{Totals}
use Rattle.greedy_planner.specs.declared.volume.Turn.{Turn}
use Rattle.greedy_planner.specs.declared.volume.Step.{Step}
use Rattle.greedy_planner.specs.declared.volume.Side.TheVariants.{Low, High}
use Rattle.greedy_planner.specs.Volumes.{volume_at, target_in, room_in, surplus_in, IsFirst}
use Rattle.greedy_planner.specs.Greedy.{skip_at, use_at, is_skip, low_skipped, both_skipped, moved, step_of, volumes_after}
use Rattle.greedy_planner.specs.Sound.{IsSound, AreSound}

-- the volume past the end
abbrev pub nowhere : Volume
nowhere = record { capacity = 0; used = 0; skipped = false }

-- 1 for a volume that isn't skipped
abbrev pub open_weight : Volume → ℕ
open_weight v = cond v.skipped 0 1

-- 1 for a volume that isn't at its target
abbrev pub off_weight : Totals → Volume → ℕ
off_weight totals v = cond (v.used == target_in totals v) 0 1

abbrev pub open_count : List Volume → ℕ
open_count s = sum_by open_weight s

abbrev pub off_count : Totals → List Volume → ℕ
off_count totals s = sum_by (off_weight totals) s

-- what falls at each turn
abbrev pub work_left : Totals → List Volume → ℕ
work_left totals s = open_count s + off_count totals s

-- a skip

pub skip_length : (i : ℕ) (s : List Volume) → length (skip_at i s) ≡ length s
skip_length i s = length-set s i (record (volume_at s i) { skipped = true })

pub skip_open_lt : (i : ℕ) (s : List Volume) → i < length s → (volume_at s i).skipped ≡ false → open_count (skip_at i s) < open_count s
skip_open_lt i s h unskipped =
    let change : open_count (skip_at i s) + open_weight (volume_at s i) ≡ open_count s + 0 = sum_by-set open_weight s i (record (volume_at s i) { skipped = true }) nowhere h in
    let weight : open_weight (volume_at s i) ≡ 1 = ap (λ (b : Bool). cond b 0 1) unskipped in
    omega arith

pub skip_open_le : (i : ℕ) (s : List Volume) → i < length s → open_count (skip_at i s) ≤ open_count s
skip_open_le i s h =
    let change : open_count (skip_at i s) + open_weight (volume_at s i) ≡ open_count s + 0 = sum_by-set open_weight s i (record (volume_at s i) { skipped = true }) nowhere h in
    omega arith

pub skip_off : (totals : Totals) (i : ℕ) (s : List Volume) → i < length s → off_count totals (skip_at i s) ≡ off_count totals s
skip_off totals i s h =
    let change : off_count totals (skip_at i s) + off_weight totals (volume_at s i) ≡ off_count totals s + off_weight totals (volume_at s i) =
    sum_by-set (off_weight totals) s i (record (volume_at s i) { skipped = true }) nowhere h in
    omega arith

-- what a skip doesn't change is the same afterwards
pub skip_map : (f : Volume → ℕ) (i : ℕ) (s : List Volume) → f (record (volume_at s i) { skipped = true }) ≡ f (volume_at s i) → map f (skip_at i s) ≡ map f s
skip_map f i s same = map-set_same f s i (record (volume_at s i) { skipped = true }) nowhere same

-- both skips of a turn

pub low_skipped_length : (totals : Totals) (turn : Turn) (s : List Volume) → length (low_skipped totals turn s) ≡ length s
low_skipped_length totals turn s =
    elim (room_in totals (volume_at s turn.low) == 0) as (λ b. length (cond b (skip_at turn.low s) s) ≡ length s)
    [ true ↦ skip_length turn.low s | false ↦ refl ]

pub both_skipped_length : (totals : Totals) (turn : Turn) (s : List Volume) → length (both_skipped totals turn s) ≡ length s
both_skipped_length totals turn s =
    elim (surplus_in totals (volume_at s turn.high) == 0) as (λ b. length (cond b (skip_at turn.high (low_skipped totals turn s)) (low_skipped totals turn s)) ≡ length s)
    [ true ↦ skip_length turn.high (low_skipped totals turn s) ∙ low_skipped_length totals turn s | false ↦ low_skipped_length totals turn s ]

pub low_skipped_off : (totals : Totals) (turn : Turn) (s : List Volume) → turn.low < length s → off_count totals (low_skipped totals turn s) ≡ off_count totals s
low_skipped_off totals turn s low =
    elim (room_in totals (volume_at s turn.low) == 0) as (λ b. off_count totals (cond b (skip_at turn.low s) s) ≡ off_count totals s)
    [ true ↦ skip_off totals turn.low s low | false ↦ refl ]

pub both_skipped_off : (totals : Totals) (turn : Turn) (s : List Volume) → turn.low < length s → turn.high < length s
    → off_count totals (both_skipped totals turn s) ≡ off_count totals s
both_skipped_off totals turn s low high =
    let high' : turn.high < length (low_skipped totals turn s) = omega (arith, low_skipped_length totals turn s) in
    elim (surplus_in totals (volume_at s turn.high) == 0)
    as (λ b. off_count totals (cond b (skip_at turn.high (low_skipped totals turn s)) (low_skipped totals turn s)) ≡ off_count totals s)
    [ true ↦ skip_off totals turn.high (low_skipped totals turn s) high' ∙ low_skipped_off totals turn s low | false ↦ low_skipped_off totals turn s low ]

pub low_skipped_map : (f : Volume → ℕ) → ((v : Volume) → f (record v { skipped = true }) ≡ f v) → (totals : Totals) (turn : Turn) (s : List Volume)
    → map f (low_skipped totals turn s) ≡ map f s
low_skipped_map f same totals turn s =
    elim (room_in totals (volume_at s turn.low) == 0) as (λ b. map f (cond b (skip_at turn.low s) s) ≡ map f s)
    [ true ↦ skip_map f turn.low s (same (volume_at s turn.low)) | false ↦ refl ]

pub both_skipped_map : (f : Volume → ℕ) → ((v : Volume) → f (record v { skipped = true }) ≡ f v) → (totals : Totals) (turn : Turn) (s : List Volume)
    → map f (both_skipped totals turn s) ≡ map f s
both_skipped_map f same totals turn s =
    elim (surplus_in totals (volume_at s turn.high) == 0)
    as (λ b. map f (cond b (skip_at turn.high (low_skipped totals turn s)) (low_skipped totals turn s)) ≡ map f s) [
      | true ↦ skip_map f turn.high (low_skipped totals turn s) (same (volume_at (low_skipped totals turn s) turn.high)) ∙ low_skipped_map f same totals turn s
      | false ↦ low_skipped_map f same totals turn s
    ]

pub both_skipped_open : (low high : ℕ) (s : List Volume) → low < length s → high < length s
    → (volume_at s low).skipped ≡ false → (volume_at s high).skipped ≡ false → (r g : Bool) → (r || g) ≡ true
    → open_count (cond g (skip_at high (cond r (skip_at low s) s)) (cond r (skip_at low s) s)) < open_count s
both_skipped_open low high s l h ul uh true true some =
    omega (arith, skip_open_lt low s l ul, skip_open_le high (skip_at low s) (omega (arith, skip_length low s)))
both_skipped_open low high s l h ul uh true false some = skip_open_lt low s l ul
both_skipped_open low high s l h ul uh false true some = skip_open_lt high s h uh
both_skipped_open low high s l h ul uh false false some = cc

-- a step

pub use_length : (i used : ℕ) (s : List Volume) → length (use_at i used s) ≡ length s
use_length i used s = length-set s i (record (volume_at s i) { used = used })

pub moved_length : (step : Step) (s : List Volume) → length (moved step s) ≡ length s
moved_length step s =
    let first = use_length step.from ((volume_at s step.from).used - step.bytes) s in
    use_length step.to ((volume_at s step.to).used + step.bytes) (use_at step.from ((volume_at s step.from).used - step.bytes) s) ∙ first

-- the sum of something over the volumes, once two of them hold other bytes
pub sum_moved : (f : Volume → ℕ) (s : List Volume) (from to x y : ℕ) → from < length s → to < length s → to ≢ from
    → sum_by f (use_at to y (use_at from x s)) + (f (volume_at s from) + f (volume_at s to))
    ≡ sum_by f s + (f (record (volume_at s from) { used = x }) + f (record (volume_at s to) { used = y }))
sum_moved f s from to x y hf ht other =
    let v = volume_at s from in
    let w = volume_at s to in
    let s1 = use_at from x s in
    let same : volume_at s1 to ≡ w = get_or-set_other s from to (record v { used = x }) nowhere other in
    let first : sum_by f s1 + f v ≡ sum_by f s + f (record v { used = x }) = sum_by-set f s from (record v { used = x }) nowhere hf in
    let second : sum_by f (use_at to y s1) + f (volume_at s1 to) ≡ sum_by f s1 + f (record (volume_at s1 to) { used = y }) =
    sum_by-set f s1 to (record (volume_at s1 to) { used = y }) nowhere (omega (arith, use_length from x s)) in
    let before : f (volume_at s1 to) ≡ f w = ap f same in
    let after : f (record (volume_at s1 to) { used = y }) ≡ f (record w { used = y }) = ap (λ (z : Volume). f (record z { used = y })) same in
    omega arith

-- one of the two is at its target then, and neither was before
pub off_falls : (tf uf tt ut b : ℕ) → b ≡ min (tt - ut) (uf - tf) → 0 < tt - ut → 0 < uf - tf
    → cond ((uf - b) == tf) 0 1 + cond ((ut + b) == tt) 0 1 < cond (uf == tf) 0 1 + cond (ut == tt) 0 1
off_falls tf uf tt ut b is room surplus = grind (arith, nat_tests)

-- the volumes of a step can take and give something
pub can_take : (totals : Totals) (turn : Turn) (s : List Volume) → is_skip totals turn s ≡ false → 0 < room_in totals (volume_at s turn.low)
can_take totals turn s h = grind (arith, common_steps)

pub can_give : (totals : Totals) (turn : Turn) (s : List Volume) → is_skip totals turn s ≡ false → 0 < surplus_in totals (volume_at s turn.high)
can_give totals turn s h = grind (arith, common_steps)

-- so they are two
pub are_two : (totals : Totals) (turn : Turn) (s : List Volume) → is_skip totals turn s ≡ false → turn.low ≢ turn.high
are_two totals turn s h same =
    let take = can_take totals turn s h in
    let give = can_give totals turn s h in
    let one : surplus_in totals (volume_at s turn.low) ≡ surplus_in totals (volume_at s turn.high) = ap (λ (i : ℕ). surplus_in totals (volume_at s i)) same in
    omega arith

pub moved_open : (totals : Totals) (turn : Turn) (s : List Volume) → turn.low < length s → turn.high < length s → is_skip totals turn s ≡ false
    → open_count (moved (step_of totals turn s) s) ≡ open_count s
moved_open totals turn s low high h =
    let step = step_of totals turn s in
    let change : open_count (moved step s) + (open_weight (volume_at s turn.high) + open_weight (volume_at s turn.low))
    ≡ open_count s + (open_weight (volume_at s turn.high) + open_weight (volume_at s turn.low)) =
    sum_moved open_weight s turn.high turn.low ((volume_at s turn.high).used - step.bytes) ((volume_at s turn.low).used + step.bytes) high low (are_two totals turn s h) in
    omega arith

pub moved_off : (totals : Totals) (turn : Turn) (s : List Volume) → turn.low < length s → turn.high < length s → is_skip totals turn s ≡ false
    → off_count totals (moved (step_of totals turn s) s) < off_count totals s
moved_off totals turn s low high h =
    let step = step_of totals turn s in
    let v = volume_at s turn.high in
    let w = volume_at s turn.low in
    let change : off_count totals (moved step s) + (off_weight totals v + off_weight totals w)
    ≡ off_count totals s + (cond ((v.used - step.bytes) == target_in totals v) 0 1 + cond ((w.used + step.bytes) == target_in totals w) 0 1) =
    sum_moved (off_weight totals) s turn.high turn.low (v.used - step.bytes) (w.used + step.bytes) high low (are_two totals turn s h) in
    let falls = off_falls (target_in totals v) v.used (target_in totals w) w.used step.bytes refl (can_take totals turn s h) (can_give totals turn s h) in
    omega (arith, change, falls)

-- a turn

pub turn_works_at : (totals : Totals) (turn : Turn) (s : List Volume) → IsFirst Low s turn.low → IsFirst High s turn.high
    → (b : Bool) → is_skip totals turn s ≡ b → work_left totals (cond b (both_skipped totals turn s) (moved (step_of totals turn s) s)) < work_left totals s
turn_works_at totals turn s low high true h =
    omega (
      arith,
      both_skipped_open turn.low turn.high s low.inside high.inside low.unskipped high.unskipped
          (room_in totals (volume_at s turn.low) == 0) (surplus_in totals (volume_at s turn.high) == 0) h,
      both_skipped_off totals turn s low.inside high.inside,
    )
turn_works_at totals turn s low high false h =
    omega (arith, moved_open totals turn s low.inside high.inside h, moved_off totals turn s low.inside high.inside h)

-- less is left after each turn
pub turn_works : (totals : Totals) (turn : Turn) (s : List Volume) → IsFirst Low s turn.low → IsFirst High s turn.high
    → work_left totals (volumes_after totals turn s) < work_left totals s
turn_works totals turn s low high = turn_works_at totals turn s low high (is_skip totals turn s) refl

pub turn_length_at : (totals : Totals) (turn : Turn) (s : List Volume) (b : Bool)
    → length (cond b (both_skipped totals turn s) (moved (step_of totals turn s) s)) ≡ length s
turn_length_at totals turn s true = both_skipped_length totals turn s
turn_length_at totals turn s false = moved_length (step_of totals turn s) s

pub turn_length : (totals : Totals) (turn : Turn) (s : List Volume) → length (volumes_after totals turn s) ≡ length s
turn_length totals turn s = turn_length_at totals turn s (is_skip totals turn s)

-- the limits

-- a target is at most what the node holds
pub target_limit : (totals : Totals) (v : Volume) → IsSound totals v → target_in totals v ≤ totals.used
target_limit totals v sound =
    let most : totals.used * v.capacity ≤ totals.used * totals.capacity = mul-le-mul_left totals.used sound.part in
    let quotient : totals.capacity * target_in totals v ≤ totals.used * v.capacity = omega (arith, sound.some, sound.part) in
    let both : totals.capacity * target_in totals v ≤ totals.capacity * totals.used = omega arith in
    le_of_mul-le-mul_left both (omega (arith, sound.some, sound.part))

pub sound_set : (totals : Totals) (s : List Volume) (i : ℕ) (v : Volume) → AreSound totals s → i < length s → IsSound totals v → AreSound totals (set s i v)
sound_set totals s i v all h sound = record {
  each = λ k l. elim (cases_eq k i) [
    | inl e ↦ let P : Volume → Type 0 = λ w. IsSound totals w in
        subst P (sym (ap (λ (j : ℕ). volume_at (set s i v) j) e ∙ get_or-set_same s i v nowhere h)) sound
    | inr other ↦ let P : Volume → Type 0 = λ w. IsSound totals w in
        subst P (sym (get_or-set_other s i k v nowhere other)) (all.each k (omega (arith, length-set s i v)))
  ];
  capacity = all.capacity;
  used = all.used;
}

pub sound_skip : (totals : Totals) (i : ℕ) (s : List Volume) → AreSound totals s → i < length s → AreSound totals (skip_at i s)
sound_skip totals i s all h =
    let v = all.each i h in
    sound_set totals s i (record (volume_at s i) { skipped = true }) all h (record { some = v.some; capacity = v.capacity; part = v.part; used = v.used })

pub sound_use : (totals : Totals) (i used : ℕ) (s : List Volume) → AreSound totals s → i < length s → used ≤ 2 ^ 60 → AreSound totals (use_at i used s)
sound_use totals i used s all h small =
    let v = all.each i h in
    sound_set totals s i (record (volume_at s i) { used = used }) all h (record { some = v.some; capacity = v.capacity; part = v.part; used = small })

pub sound_low_skipped : (totals : Totals) (turn : Turn) (s : List Volume) → AreSound totals s → turn.low < length s → (b : Bool)
    → AreSound totals (cond b (skip_at turn.low s) s)
sound_low_skipped totals turn s all low true = sound_skip totals turn.low s all low
sound_low_skipped totals turn s all low false = all

pub sound_both_skipped : (totals : Totals) (turn : Turn) (s : List Volume) → AreSound totals s → turn.low < length s → turn.high < length s → (b : Bool)
    → AreSound totals (cond b (skip_at turn.high (low_skipped totals turn s)) (low_skipped totals turn s))
sound_both_skipped totals turn s all low high true =
    sound_skip totals turn.high (low_skipped totals turn s) (sound_low_skipped totals turn s all low (room_in totals (volume_at s turn.low) == 0))
    (omega (arith, low_skipped_length totals turn s))
sound_both_skipped totals turn s all low high false = sound_low_skipped totals turn s all low (room_in totals (volume_at s turn.low) == 0)

-- a step moves no more than high has, and leaves no number too large
pub step_gives : (totals : Totals) (turn : Turn) (s : List Volume) → is_skip totals turn s ≡ false
    → target_in totals (volume_at s turn.high) + (step_of totals turn s).bytes ≤ (volume_at s turn.high).used
step_gives totals turn s h = let give = can_give totals turn s h in omega arith

pub step_takes : (totals : Totals) (turn : Turn) (s : List Volume) → is_skip totals turn s ≡ false
    → (volume_at s turn.low).used + (step_of totals turn s).bytes ≤ target_in totals (volume_at s turn.low)
step_takes totals turn s h = let take = can_take totals turn s h in omega arith

pub sound_moved : (totals : Totals) (turn : Turn) (s : List Volume) → AreSound totals s → turn.low < length s → turn.high < length s
    → is_skip totals turn s ≡ false → AreSound totals (moved (step_of totals turn s) s)
sound_moved totals turn s all low high h =
    let step = step_of totals turn s in
    let v = all.each turn.high high in
    let w = all.each turn.low low in
    let left : (volume_at s turn.high).used - step.bytes ≤ 2 ^ 60 = omega (arith, v.used) in
    let filled : (volume_at s turn.low).used + step.bytes ≤ 2 ^ 60 = omega (arith, step_takes totals turn s h, target_limit totals (volume_at s turn.low) w, all.used) in
    let first = sound_use totals turn.high ((volume_at s turn.high).used - step.bytes) s all high left in
    sound_use totals turn.low ((volume_at s turn.low).used + step.bytes) (use_at turn.high ((volume_at s turn.high).used - step.bytes) s) first
    (omega (arith, use_length turn.high ((volume_at s turn.high).used - step.bytes) s)) filled

pub sound_turn_at : (totals : Totals) (turn : Turn) (s : List Volume) → AreSound totals s → turn.low < length s → turn.high < length s
    → (b : Bool) → is_skip totals turn s ≡ b → AreSound totals (cond b (both_skipped totals turn s) (moved (step_of totals turn s) s))
sound_turn_at totals turn s all low high true h = sound_both_skipped totals turn s all low high (surplus_in totals (volume_at s turn.high) == 0)
sound_turn_at totals turn s all low high false h = sound_moved totals turn s all low high h

pub sound_turn : (totals : Totals) (turn : Turn) (s : List Volume) → AreSound totals s → turn.low < length s → turn.high < length s
    → AreSound totals (volumes_after totals turn s)
sound_turn totals turn s all low high = sound_turn_at totals turn s all low high (is_skip totals turn s) refl
