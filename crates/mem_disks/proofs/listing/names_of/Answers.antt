use Rattle.std.proofs.Common.{sym, ◌∙◌}
use Rattle.mem_disks.proofs.Directory.{none_listed, passes, comes_after, pushes, is_part, is_forward, sorted_part, all_listed}
use Rattle.mem_disks.proofs.listing.names_of.Goals as goal

pub range-path-items-requires : goal.range-path-items-requires
range-path-items-requires c = is_forward c.args.dir.now c.in_ok-first.first c.in_ok-past.past c.in_ok-first.ensures c.in_ok-past.ensures

pub loop-path-init : goal.loop-path-init
loop-path-init c = rw c.make-names.ensures (none_listed c.args.dir.now c.into_iter-path-iterator.result)

pub push-requires : goal.push-requires
push-requires c =
    comes_after c.args.dir.now c.into_iter-path-iterator.result c.loop-path.path-iterator c.loop-path.names c.loop-path.invariant
    (c.in-Some.path.now, c.in-Some.field-0-1.now) c.next.new.self c.in-Some.ensures.steps
    c.in-Some-name_in.name.now c.in-Some-name_in.ensures.0 (sym c.as_str.ensures.value ∙ c.in-Some-name_in.ensures.1)
    (sorted_part (is_part c.in_ok-first.first c.in_ok-past.past) c.args.shelf.now.entries c.into_iter-path-iterator.result
    (c.into_iter-path-iterator.ensures.into_iter_gives ∙ c.range-path-items.ensures.between tt) c.range-path-items.ensures.ordered)

pub loop-path-preserved-in-Continue-branch-3 : goal.loop-path-preserved-in-Continue-branch-3
loop-path-preserved-in-Continue-branch-3 c =
    pushes c.args.dir.now c.into_iter-path-iterator.result c.loop-path.path-iterator c.loop-path.names c.loop-path.invariant
    (c.in-Some.path.now, c.in-Some.field-0-1.now) c.next.new.self c.in-Some.ensures.steps
    c.in-Some-name_in.name.now c.in-Some-name_in.ensures.0 (sym c.as_str.ensures.value ∙ c.in-Some-name_in.ensures.1)
    c.push.new.self c.in_ok-push-in-Some-name_in.ensures.ok c.in_ok-push-in-Some-name_in.ensures.order

pub loop-path-preserved : goal.loop-path-preserved
loop-path-preserved c =
    passes c.args.dir.now c.into_iter-path-iterator.result c.loop-path.path-iterator c.loop-path.names c.loop-path.invariant
    (c.in-Some.path.now, c.in-Some.field-0-1.now) c.next.new.self c.in-Some.ensures.steps
    (λ name file is. c.in-None-name_in.ensures name file (c.as_str.ensures.value ∙ is))

pub returns : goal.returns
returns c =
    all_listed c.args.dir.now c.in_ok-first.first c.in_ok-past.past c.args.shelf.now c.into_iter-path-iterator.result c.loop-path.path-iterator c.loop-path.names
    c.in_ok-first.ensures c.in_ok-past.ensures (c.into_iter-path-iterator.ensures.into_iter_gives ∙ c.range-path-items.ensures.between tt) c.in-None.ensures.steps.0 c.loop-path.invariant
