-- How far a volume's share of used bytes is from that of the whole node. With U bytes used of C in the node, and u of c
-- on the volume, its density is U/C - u/c; both sides are multiplied by C and c, so that nothing is rounded.
use Rattle.std.specs.Prelude.{ℕ, ◌+◌, ◌-◌, ◌*◌, ◌/◌, nat_lt, Bool}

-- how far two numbers are apart
abbrev pub distance : ℕ → ℕ → ℕ
distance a b = (a - b) + (b - a)

-- the density is further from 0 than so many hundredths
abbrev pub is_past : (total_capacity total_used capacity used percent : ℕ) → Bool
is_past total_capacity total_used capacity used percent =
    nat_lt (percent * total_capacity * capacity) (distance (total_used * capacity) (used * total_capacity) * 100)

-- the bytes that the volume holds at the node's share, rounded down
abbrev pub target_of : (total_capacity total_used capacity : ℕ) → ℕ
target_of total_capacity total_used capacity = (total_used * capacity) / total_capacity
