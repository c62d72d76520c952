use Rattle.std.proofs.Common.{◌+◌, ℕ, length, refl, ap, ◌∙◌}
use Rattle.std.proofs.lemmas.List.{length_push}
use Rattle.mem_disks.proofs.Held.{held_push}
use Rattle.mem_disks.proofs.shelves.empty_shelves.Goals as goal

pub loop-i-preserved : goal.loop-i-preserved
loop-i-preserved c =
    let items = c.in_ok-push.ensures.items in (
      ap length items ∙ length_push c.loop-i.shelves.items c.new.result ∙ ap (λ (n : ℕ). n + 1) c.loop-i.invariant.0,
      λ index path. rw items (held_push c.loop-i.shelves.items c.new.result (λ p. rw c.new.ensures.empty refl) c.loop-i.invariant.1 index path),
    )
