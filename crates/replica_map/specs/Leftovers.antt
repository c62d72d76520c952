-- Which leftovers are looked for.
use Rattle.std.specs.Prelude.{ℕ, ◌==◌, ◌&&◌, Bool, true, Option, Some, None}
use Rattle.replica_map.specs.declared.leftover.Leftover.{Leftover}

-- the volume is this one, where one is given
abbrev pub is_on : Option ℕ → ℕ → Bool
is_on None vol = true
is_on (Some given) vol = vol == given

-- the leftover is the block's, on the volume if one is given
abbrev pub is_leftover_of : ℕ → Option ℕ → Leftover → Bool
is_leftover_of id vol leftover = leftover.id == id && is_on vol leftover.vol
