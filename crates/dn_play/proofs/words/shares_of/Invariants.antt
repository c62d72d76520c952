use Rattle.std.proofs.Common.{◌≡◌, map, take}
use Rattle.dn_play.proofs.words.shares_of.Given as goal

abbrev pub invariant-loop-volume : goal.invariant-loop-volume
invariant-loop-volume l = l.shares.items ≡ map (λ volume. volume.share) (take l.volume-index l.volume-items)
