use Rattle.std.proofs.Common.{◌≡◌, ◌≤◌, ◌+◌, ◌*◌, ◌/◌, ◌-◌, length, take, vec_len}
use Rattle.std.specs.Vec.{vec_capacity}
use Rattle.meta_file.specs.Sums.{Adds}
use Rattle.meta_file.proofs.summer.Summer.take_all.Given as goal

-- the front of the piece has been taken in, and there is room for the rest
abbrev pub invariant-loop-at : goal.invariant-loop-at
invariant-loop-at l =
    (l.at ≤ length l.piece)
    × (l.self.kind ≡ l.initial.self.kind)
    × (l.self.step ≡ l.initial.self.step)
    × Adds l.initial.self l.self (take l.at l.piece) l.initial.out.items l.out.items
    × (vec_len l.out + 4 * ((l.self.filled + (length l.piece - l.at)) / l.self.step) ≤ vec_capacity l.out)

abbrev pub decreases-loop-at : goal.decreases-loop-at
decreases-loop-at l = length l.piece - l.at
