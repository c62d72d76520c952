-- Three numbers that differ are distinct as a list.
use Rattle.std.proofs.Common.{◌≡◌, ◌≢◌, ℕ, zero, suc, ◌<◌, List, [], ◌∷◌, length, arith}
use Rattle.std.specs.Prelude.{slice_index}
use Rattle.dup_resolve.specs.Picks.{IsDistinct}

pub three_distinct : (a b c : ℕ) → a ≢ b → a ≢ c → b ≢ c → IsDistinct (a ∷ b ∷ c ∷ [])
three_distinct a b c ab ac bc zero zero before within = absurd (omega (arith, before))
three_distinct a b c ab ac bc zero (suc zero) before within = ab
three_distinct a b c ab ac bc zero (suc (suc zero)) before within = ac
three_distinct a b c ab ac bc (suc zero) zero before within = absurd (omega (arith, before))
three_distinct a b c ab ac bc (suc zero) (suc zero) before within = absurd (omega (arith, before))
three_distinct a b c ab ac bc (suc zero) (suc (suc zero)) before within = bc
three_distinct a b c ab ac bc (suc (suc j)) zero before within = absurd (omega (arith, before))
three_distinct a b c ab ac bc (suc (suc j)) (suc zero) before within = absurd (omega (arith, before))
three_distinct a b c ab ac bc (suc (suc j)) (suc (suc zero)) before within = absurd (omega (arith, before))
three_distinct a b c ab ac bc j (suc (suc (suc k))) before within = absurd (omega (arith, within))
