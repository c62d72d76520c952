use Rattle.std.proofs.Common.{◌≡◌, ◌++◌, [], ◌∷◌, ℕ, List, Option, take, true, not, sym, ap, ◌∙◌, subst}
use Rattle.pool_survey.specs.declared.places.FoundOn.{FoundOn}
use Rattle.pool_open.specs.Plan.{leaves_block}
use Rattle.pool_open.specs.Found.{AddsHeld, IsHeldFirst}
use Rattle.pool_open.proofs.Lists.{take_put}
use Rattle.pool_open.proofs.Looks.{looks_then}
use Rattle.pool_open.proofs.Held.{adds_held_more, first_found, first_not_yet, first_here}
use Rattle.pool_open.proofs.books.hold_all.Goals as goal
use Rattle.pool_open.proofs.books.hold_all.Goals.{then-is_none+then-leaves, else-is_none, else-is_none-via-then-is_none+else-leaves, else-is_none-via-else-is_none}

pub returns-in_err-len-clause-looks : goal.returns-in_err-len-clause-looks
returns-in_err-len-clause-looks g c = looks_then g.D.PoolDisks _ _ _ c.loop-on.invariant.looks c.hold_on.ensures.looks

pub loop-on-preserved : goal.loop-on-preserved
loop-on-preserved g c =
    let one : FoundOn = c.on-item.result in
    let passed : List FoundOn = take c.loop-on.on-index c.args.places.now in
    let told = g.D.PoolDisks.worlds c.loop-on.disks in
    let after = g.D.PoolDisks.worlds c.hold_on.new.disks in
    let taken = take_put c.args.places.now c.loop-on.on-index one c.loop-on-test.true c.on-item.is in
    record {
      held = subst (λ (l : List FoundOn). AddsHeld after c.args.id c.args.stamp l c.args.leftovers.now.items c.hold_on.new.leftovers.items) (sym taken)
          (adds_held_more told after c.hold_on.ensures.looks.remains c.args.id c.args.stamp passed one _ _ _ c.loop-on.invariant.held c.in_ok-len.ensures.held);
      is_first = subst (λ (l : List FoundOn). IsHeldFirst after c.args.id l c.if-is_none.first) (sym taken) (elim c.if-is_none.branch [
        | then-is_none+then-leaves w ↦
            let leaves : leaves_block one ≡ true = sym w.leaves.ensures ∙ w.if-leaves.true in
            subst (λ (f : Option (ℕ × ℕ)). IsHeldFirst after c.args.id (passed ++ one ∷ []) f) (sym w.first-is)
            (first_here told after c.hold_on.ensures.looks.remains c.args.id passed one c.loop-on.first c.in_ok-len.len (c.is_none.ensures ∙ ap not w.if-is_none.true) leaves
            (c.in_ok-len.ensures.size leaves) c.loop-on.invariant.is_first)
        | else-is_none w ↦ subst (λ (f : Option (ℕ × ℕ)). IsHeldFirst after c.args.id (passed ++ one ∷ []) f) (sym w.first-is) (elim w.else-is_none.branch [
          | else-is_none-via-then-is_none+else-leaves v ↦
              first_not_yet told after c.hold_on.ensures.looks.remains c.args.id passed one c.loop-on.first (c.is_none.ensures ∙ ap not v.if-is_none.true)
              (sym v.leaves.ensures ∙ v.if-leaves.false) c.loop-on.invariant.is_first
          | else-is_none-via-else-is_none v ↦
              first_found told after c.hold_on.ensures.looks.remains c.args.id passed one c.loop-on.first (c.is_none.ensures ∙ ap not v.if-is_none.false) c.loop-on.invariant.is_first
        ])
      ]);
      looks = looks_then g.D.PoolDisks _ _ _ c.loop-on.invariant.looks c.hold_on.ensures.looks;
    }
