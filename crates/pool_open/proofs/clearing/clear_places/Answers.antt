use Rattle.std.proofs.Common.{◌≡◌, ◌<◌, ◌∙◌, ℕ, List, length, get_or, sym, ap, subst, Contains, arith}
use Rattle.std.specs.Prelude.{string_bytes}
use Rattle.std.proofs.lemmas.List.{length-map, get_or-map, get_or_default}
use Rattle.std.proofs.lemmas.List.Elements.{Contains-get_or, All-get_or}
use Rattle.disk_model.proofs.Laws.{goes_on}
use Rattle.disk_model.proofs.GoingOn.{went_call, went_then}
use Rattle.pool_open.specs.declared.clearing.VolumePath.{VolumePath}
use Rattle.pool_open.specs.Plan.{Place, place_of, places_at}
use Rattle.pool_open.specs.Clearing.{IsOnVolumes, AreOnVolumes, LeftInOrder}
use Rattle.pool_open.proofs.Removals.{nowhere}
use Rattle.pool_open.proofs.Ordered.{order_more, taken_more, left_in_order, taken_in_order, taken_all}
use Rattle.pool_state.proofs.Foreign.{foreign_then}
use Rattle.pool_open.proofs.Ours.{ours_removed}
use Rattle.pool_open.proofs.clearing.clear_places.Goals as goal

-- the place of a path
place_at : (places : List VolumePath) (i : ℕ) (one other : VolumePath) (path : List ℕ) → i < length places → path ≡ string_bytes (get_or places i other).path →
    get_or (places_at places) i nowhere ≡ ((get_or places i one).vol, path)
place_at places i one other path below value =
    let same : path ≡ string_bytes (get_or places i one).path = value ∙ ap (λ (p : VolumePath). string_bytes p.path) (get_or_default places i other one below) in
    get_or-map place_of places i one nowhere below ∙ ap (λ (p : List ℕ). ((get_or places i one).vol, p)) (sym same)

has_place : (places : List VolumePath) (i : ℕ) (one other : VolumePath) (path : List ℕ) → i < length places → path ≡ string_bytes (get_or places i other).path →
    Contains (places_at places) ((get_or places i one).vol, path)
has_place places i one other path below value =
    let long : length (places_at places) ≡ length places = length-map places place_of in
    subst (λ (p : Place). Contains (places_at places) p) (place_at places i one other path below value)
    (Contains-get_or (places_at places) i nowhere (omega (arith, below, long)))

on_volumes_at : (volumes : ℕ) (places : List VolumePath) (i : ℕ) (one : VolumePath) → i < length places → AreOnVolumes volumes (places_at places) →
    IsOnVolumes volumes (place_of (get_or places i one))
on_volumes_at volumes places i one below all =
    let long : length (places_at places) ≡ length places = length-map places place_of in
    subst (IsOnVolumes volumes) (get_or-map place_of places i one nowhere below)
    (All-get_or (IsOnVolumes volumes) (places_at places) i nowhere (omega (arith, below, long)) all)

pub remove-requires-clause-low : goal.remove-requires-clause-low
remove-requires-clause-low g c =
    let on = on_volumes_at (g.D.PoolDisks.volume_count c.args.disks.now) c.args.places.now c.loop-at.at c.index-places-at.result c.loop-at-test.true c.requires.on_volumes in
    on.0

pub remove-requires-clause-high : goal.remove-requires-clause-high
remove-requires-clause-high g c =
    let on = on_volumes_at (g.D.PoolDisks.volume_count c.args.disks.now) c.args.places.now c.loop-at.at c.index-places-at.result c.loop-at-test.true c.requires.on_volumes in
    omega (arith, on.1, c.loop-at.invariant.goes_on.volume_count)

module _ (places : List VolumePath) (i : ℕ) (one other : VolumePath) (path : List ℕ) (below : i < length places) (value : path ≡ string_bytes (get_or places i other).path) where
  inside : i < length (places_at places)
  inside = let long : length (places_at places) ≡ length places = length-map places place_of in omega (arith, below, long)

  here : get_or (places_at places) i nowhere ≡ ((get_or places i one).vol, path)
  here = place_at places i one other path below value

pub returns-in_err-remove-clause-in_order : goal.returns-in_err-remove-clause-in_order
returns-in_err-remove-clause-in_order g c =
    let places = c.args.places.now in
    order_more (places_at places) c.loop-at.at (get_or places c.loop-at.at c.index-places-at.result).vol c.as_str.result.now
    (inside places c.loop-at.at c.index-places-at.result c.index-places-at-in-loop-at.result c.as_str.result.now c.loop-at-test.true c.as_str.ensures.value)
    (here places c.loop-at.at c.index-places-at.result c.index-places-at-in-loop-at.result c.as_str.result.now c.loop-at-test.true c.as_str.ensures.value)
    (g.D.PoolDisks.worlds c.args.disks.now) _ _ c.remove.ensures.worlds c.loop-at.invariant.taken

pub returns-in_err-remove-clause-images : goal.returns-in_err-remove-clause-images
returns-in_err-remove-clause-images g c =
    let places = c.args.places.now in
    let first = g.D.PoolDisks.worlds c.args.disks.now in
    let vol = (get_or places c.loop-at.at c.index-places-at.result).vol in
    let within = inside places c.loop-at.at c.index-places-at.result c.index-places-at-in-loop-at.result c.as_str.result.now c.loop-at-test.true c.as_str.ensures.value in
    let is = here places c.loop-at.at c.index-places-at.result c.index-places-at-in-loop-at.result c.as_str.result.now c.loop-at-test.true c.as_str.ensures.value in
    let comes = order_more (places_at places) c.loop-at.at vol c.as_str.result.now within is first _ _ c.remove.ensures.worlds c.loop-at.invariant.taken in
    goes_on (LeftInOrder (places_at places) first) c.loop-at.invariant.images c.remove.ensures.time
    (left_in_order (places_at places) c.loop-at.at vol c.as_str.result.now within is first first (g.D.PoolDisks.worlds c.remove.new.self) comes)

pub loop-at-preserved : goal.loop-at-preserved
loop-at-preserved g c =
    let places = c.args.places.now in
    let first = g.D.PoolDisks.worlds c.args.disks.now in
    let vol = (get_or places c.loop-at.at c.index-places-at.result).vol in
    let within = inside places c.loop-at.at c.index-places-at.result c.index-places-at-in-loop-at.result c.as_str.result.now c.loop-at-test.true c.as_str.ensures.value in
    let is = here places c.loop-at.at c.index-places-at.result c.index-places-at-in-loop-at.result c.as_str.result.now c.loop-at-test.true c.as_str.ensures.value in
    let comes = order_more (places_at places) c.loop-at.at vol c.as_str.result.now within is first _ _ c.remove.ensures.worlds c.loop-at.invariant.taken in
    let has = has_place places c.loop-at.at c.index-places-at.result c.index-places-at-in-loop-at.result c.as_str.result.now c.loop-at-test.true c.as_str.ensures.value in
    record {
      taken = taken_more (places_at places) c.loop-at.at vol c.as_str.result.now within is first _ _ c.in_ok-remove.ensures.ok c.loop-at.invariant.taken;
      images = goes_on (LeftInOrder (places_at places) first) c.loop-at.invariant.images c.remove.ensures.time
          (left_in_order (places_at places) c.loop-at.at vol c.as_str.result.now within is first first (g.D.PoolDisks.worlds c.remove.new.self) comes);
      goes_on = went_then g.D.PoolDisks c.args.disks.now c.loop-at.disks c.remove.new.self
          c.loop-at.invariant.goes_on
          (went_call g.D.PoolDisks (g.met.D.PoolDisks.counts_now _) c.remove.ensures.time
          c.remove.ensures.worlds.honest c.remove.ensures.cause.later c.remove.ensures.absences (omega (arith, c.remove.ensures.numbers)) c.remove.ensures.volumes);
      foreign = foreign_then c.loop-at.invariant.foreign
          (ours_removed (places_at c.args.places.now) c.requires.ours (get_or c.args.places.now c.loop-at.at c.index-places-at.result).vol c.as_str.result.now has c.remove.ensures.worlds c.remove.ensures.time);
    }

pub returns-clause-in_order : goal.returns-clause-in_order
returns-clause-in_order g c = taken_in_order (places_at c.args.places.now) c.loop-at.at _ _ c.loop-at.invariant.taken

pub returns-clause-all : goal.returns-clause-all
returns-clause-all g c =
    let long : length (places_at c.args.places.now) ≡ length c.args.places.now = length-map c.args.places.now place_of in
    taken_all (places_at c.args.places.now) c.loop-at.at _ _ (omega (arith, c.loop-at-test.false, long)) c.loop-at.invariant.taken

pub returns-in_err-remove-clause-goes_on : goal.returns-in_err-remove-clause-goes_on
returns-in_err-remove-clause-goes_on g c = went_then g.D.PoolDisks _ _ _ c.loop-at.invariant.goes_on
    (went_call g.D.PoolDisks (g.met.D.PoolDisks.counts_now _) c.remove.ensures.time
    c.remove.ensures.worlds.honest c.remove.ensures.cause.later c.remove.ensures.absences (omega (arith, c.remove.ensures.numbers)) c.remove.ensures.volumes)

pub returns-in_err-remove-clause-foreign : goal.returns-in_err-remove-clause-foreign
returns-in_err-remove-clause-foreign g c =
    let has = has_place c.args.places.now c.loop-at.at c.index-places-at.result c.index-places-at-in-loop-at.result c.as_str.result.now c.loop-at-test.true c.as_str.ensures.value in
    foreign_then c.loop-at.invariant.foreign
    (ours_removed (places_at c.args.places.now) c.requires.ours (get_or c.args.places.now c.loop-at.at c.index-places-at.result).vol c.as_str.result.now has c.remove.ensures.worlds c.remove.ensures.time)
