use Rattle.std.proofs.Common.{◌∙◌, List, sym, subst}
use Rattle.disk_model.specs.Told.{InEachWorld, StandsWithin}
use Rattle.disk_model.specs.Moments.{AddsOnly}
use Rattle.disk_model.proofs.GoingOn.{went_then}
use Rattle.pool_state.specs.Books.{block_books}
use Rattle.pool_state.proofs.Foreign.{foreign_then}
use Rattle.pool_open.specs.declared.clearing.VolumePath.{VolumePath}
use Rattle.pool_open.specs.Plan.{places_at}
use Rattle.pool_open.specs.Clearing.{AreOnVolumes, ComesAllCleared, LeftInOrder}
use Rattle.pool_open.specs.Ours.{AreOurs}
use Rattle.pool_open.specs.Outcome.{Opens}
use Rattle.pool_open.proofs.Ours.{looks_foreign}
use Rattle.pool_open.proofs.Ending.{looked_images}
use Rattle.pool_open.proofs.Readied.{surplus_there, surplus_are_ours, places_there, places_are_ours, images_first, images_all, opens_all}
use Rattle.pool_open.proofs.opening.reopen_pool.Goals as goal

pub returns-in-Err-Failed-clause-images : goal.returns-in-Err-Failed-clause-images
returns-in-Err-Failed-clause-images g c = looked_images g.D.PoolDisks c.args.pool.now.disks c.prepare.new.disks c.prepare.ensures.looks c.requires.aside

pub returns-in-Err-Memory-clause-images : goal.returns-in-Err-Memory-clause-images
returns-in-Err-Memory-clause-images g c = looked_images g.D.PoolDisks c.args.pool.now.disks c.prepare.new.disks c.prepare.ensures.looks c.requires.aside

pub returns-in-Err-Failed-clause-foreign : goal.returns-in-Err-Failed-clause-foreign
returns-in-Err-Failed-clause-foreign g c = looks_foreign g.D.PoolDisks c.args.pool.now.disks c.prepare.new.disks c.prepare.ensures.looks

pub returns-in-Err-Memory-clause-foreign : goal.returns-in-Err-Memory-clause-foreign
returns-in-Err-Memory-clause-foreign g c = looks_foreign g.D.PoolDisks c.args.pool.now.disks c.prepare.new.disks c.prepare.ensures.looks

pub clear_places-requires-clause-on_volumes : goal.clear_places-requires-clause-on_volumes
clear_places-requires-clause-on_volumes g c =
    subst (λ n. AreOnVolumes n (places_at c.deref.result.now)) (sym c.prepare.ensures.looks.goes_on.volume_count)
    (subst (λ (l : List VolumePath). AreOnVolumes (g.D.PoolDisks.volume_count c.args.pool.now.disks) (places_at l)) (sym c.deref.ensures.value) (surplus_there c.in-Ok.ensures.prepared))

pub clear_places-requires-clause-ours : goal.clear_places-requires-clause-ours
clear_places-requires-clause-ours g c = subst (λ (l : List VolumePath). AreOurs (places_at l)) (sym c.deref.ensures.value) (surplus_are_ours c.in-Ok.ensures.prepared)

pub returns-in-Err-clause-images : goal.returns-in-Err-clause-images
returns-in-Err-clause-images g c =
    let second = g.D.PoolDisks.worlds c.prepare.new.disks in
    images_first c.in-Ok.ensures.prepared c.requires.aside c.prepare.ensures.looks.goes_on.honest.0 (g.met.D.PoolDisks.is_disk c.prepare.new.disks).some
    (subst (λ n. StandsWithin n second) c.prepare.ensures.looks.goes_on.volume_count (g.met.D.PoolDisks.within c.prepare.new.disks)) (g.D.PoolDisks.left_since c.clear_places.new.disks)
    (subst (λ (l : List VolumePath). AddsOnly (g.D.PoolDisks.left_since c.prepare.new.disks) (g.D.PoolDisks.left_since c.clear_places.new.disks) (LeftInOrder (places_at l) second)) c.deref.ensures.value
    c.clear_places.ensures.images)

pub returns-in-Err-clause-goes_on : goal.returns-in-Err-clause-goes_on
returns-in-Err-clause-goes_on g c = went_then g.D.PoolDisks _ _ _ c.prepare.ensures.looks.goes_on c.clear_places.ensures.goes_on

pub returns-in-Err-clause-foreign : goal.returns-in-Err-clause-foreign
returns-in-Err-clause-foreign g c =
    foreign_then (looks_foreign g.D.PoolDisks c.args.pool.now.disks c.prepare.new.disks c.prepare.ensures.looks) c.clear_places.ensures.foreign

pub clear_places-requires-2-clause-on_volumes : goal.clear_places-requires-2-clause-on_volumes
clear_places-requires-2-clause-on_volumes g c =
    subst (λ n. AreOnVolumes n (places_at c.deref-2.result.now)) (sym (c.clear_places.ensures.goes_on.volume_count ∙ c.prepare.ensures.looks.goes_on.volume_count))
    (subst (λ (l : List VolumePath). AreOnVolumes (g.D.PoolDisks.volume_count c.args.pool.now.disks) (places_at l)) (sym c.deref-2.ensures.value) (places_there c.in-Ok.ensures.prepared))

pub clear_places-requires-2-clause-ours : goal.clear_places-requires-2-clause-ours
clear_places-requires-2-clause-ours g c = subst (λ (l : List VolumePath). AreOurs (places_at l)) (sym c.deref-2.ensures.value) (places_are_ours c.in-Ok.ensures.prepared)

pub returns-in-Ok-clear_places-clause-opened : goal.returns-in-Ok-clear_places-clause-opened
returns-in-Ok-clear_places-clause-opened g c =
    let before = g.D.PoolDisks.worlds c.args.pool.now.disks in
    let second = g.D.PoolDisks.worlds c.prepare.new.disks in
    let third = g.D.PoolDisks.worlds c.clear_places.new.disks in
    let last = g.D.PoolDisks.worlds c.clear_places-2.new.disks in
    subst (λ n. Opens before last n (block_books c.in-Ok.prepared.map) (g.D.PoolDisks.left_since c.args.pool.now.disks) (g.D.PoolDisks.left_since c.clear_places-2.new.disks))
    (sym (c.clear_places-2.ensures.goes_on.volume_count ∙ c.clear_places.ensures.goes_on.volume_count ∙ c.prepare.ensures.looks.goes_on.volume_count))
    (opens_all c.in-Ok.ensures.prepared c.requires.aside c.prepare.ensures.looks.goes_on.honest.0 (g.met.D.PoolDisks.is_disk c.prepare.new.disks).some
    (subst (λ n. StandsWithin n second) c.prepare.ensures.looks.goes_on.volume_count (g.met.D.PoolDisks.within c.prepare.new.disks)) third
    (subst (λ (l : List VolumePath). InEachWorld third (ComesAllCleared (places_at l) second)) c.deref.ensures.value c.in_default.ensures.all) last
    (subst (λ (l : List VolumePath). InEachWorld last (ComesAllCleared (places_at l) third)) c.deref-2.ensures.value c.in-Ok-clear_places.ensures.all)
    (g.D.PoolDisks.left_since c.clear_places.new.disks) (g.D.PoolDisks.left_since c.clear_places-2.new.disks)
    (subst (λ (l : List VolumePath). AddsOnly (g.D.PoolDisks.left_since c.prepare.new.disks) (g.D.PoolDisks.left_since c.clear_places.new.disks) (LeftInOrder (places_at l) second)) c.deref.ensures.value
    c.clear_places.ensures.images)
    (subst (λ (l : List VolumePath). AddsOnly (g.D.PoolDisks.left_since c.clear_places.new.disks) (g.D.PoolDisks.left_since c.clear_places-2.new.disks) (LeftInOrder (places_at l) third)) c.deref-2.ensures.value
    c.clear_places-2.ensures.images))

pub returns-in-Ok-clear_places-clause-images : goal.returns-in-Ok-clear_places-clause-images
returns-in-Ok-clear_places-clause-images g c =
    let second = g.D.PoolDisks.worlds c.prepare.new.disks in
    let third = g.D.PoolDisks.worlds c.clear_places.new.disks in
    images_all c.in-Ok.ensures.prepared c.requires.aside c.prepare.ensures.looks.goes_on.honest.0 (g.met.D.PoolDisks.is_disk c.prepare.new.disks).some
    (subst (λ n. StandsWithin n second) c.prepare.ensures.looks.goes_on.volume_count (g.met.D.PoolDisks.within c.prepare.new.disks)) third
    (subst (λ (l : List VolumePath). InEachWorld third (ComesAllCleared (places_at l) second)) c.deref.ensures.value c.in_default.ensures.all)
    (g.D.PoolDisks.left_since c.clear_places.new.disks) (g.D.PoolDisks.left_since c.clear_places-2.new.disks)
    (subst (λ (l : List VolumePath). AddsOnly (g.D.PoolDisks.left_since c.prepare.new.disks) (g.D.PoolDisks.left_since c.clear_places.new.disks) (LeftInOrder (places_at l) second)) c.deref.ensures.value
    c.clear_places.ensures.images)
    (subst (λ (l : List VolumePath). AddsOnly (g.D.PoolDisks.left_since c.clear_places.new.disks) (g.D.PoolDisks.left_since c.clear_places-2.new.disks) (LeftInOrder (places_at l) third)) c.deref-2.ensures.value
    c.clear_places-2.ensures.images)

pub returns-in-Ok-clear_places-clause-goes_on : goal.returns-in-Ok-clear_places-clause-goes_on
returns-in-Ok-clear_places-clause-goes_on g c =
    went_then g.D.PoolDisks _ _ _ (went_then g.D.PoolDisks _ _ _ c.prepare.ensures.looks.goes_on c.clear_places.ensures.goes_on) c.clear_places-2.ensures.goes_on

pub returns-in-Ok-clear_places-clause-foreign : goal.returns-in-Ok-clear_places-clause-foreign
returns-in-Ok-clear_places-clause-foreign g c =
    foreign_then (foreign_then (looks_foreign g.D.PoolDisks c.args.pool.now.disks c.prepare.new.disks c.prepare.ensures.looks) c.clear_places.ensures.foreign) c.clear_places-2.ensures.foreign

pub returns-in-Err-clear_places-clause-images : goal.returns-in-Err-clear_places-clause-images
returns-in-Err-clear_places-clause-images g c =
    let second = g.D.PoolDisks.worlds c.prepare.new.disks in
    let third = g.D.PoolDisks.worlds c.clear_places.new.disks in
    images_all c.in-Ok.ensures.prepared c.requires.aside c.prepare.ensures.looks.goes_on.honest.0 (g.met.D.PoolDisks.is_disk c.prepare.new.disks).some
    (subst (λ n. StandsWithin n second) c.prepare.ensures.looks.goes_on.volume_count (g.met.D.PoolDisks.within c.prepare.new.disks)) third
    (subst (λ (l : List VolumePath). InEachWorld third (ComesAllCleared (places_at l) second)) c.deref.ensures.value c.in_default.ensures.all)
    (g.D.PoolDisks.left_since c.clear_places.new.disks) (g.D.PoolDisks.left_since c.clear_places-2.new.disks)
    (subst (λ (l : List VolumePath). AddsOnly (g.D.PoolDisks.left_since c.prepare.new.disks) (g.D.PoolDisks.left_since c.clear_places.new.disks) (LeftInOrder (places_at l) second)) c.deref.ensures.value
    c.clear_places.ensures.images)
    (subst (λ (l : List VolumePath). AddsOnly (g.D.PoolDisks.left_since c.clear_places.new.disks) (g.D.PoolDisks.left_since c.clear_places-2.new.disks) (LeftInOrder (places_at l) third)) c.deref-2.ensures.value
    c.clear_places-2.ensures.images)

pub returns-in-Err-clear_places-clause-goes_on : goal.returns-in-Err-clear_places-clause-goes_on
returns-in-Err-clear_places-clause-goes_on g c =
    went_then g.D.PoolDisks _ _ _ (went_then g.D.PoolDisks _ _ _ c.prepare.ensures.looks.goes_on c.clear_places.ensures.goes_on) c.clear_places-2.ensures.goes_on

pub returns-in-Err-clear_places-clause-foreign : goal.returns-in-Err-clear_places-clause-foreign
returns-in-Err-clear_places-clause-foreign g c =
    foreign_then (foreign_then (looks_foreign g.D.PoolDisks c.args.pool.now.disks c.prepare.new.disks c.prepare.ensures.looks) c.clear_places.ensures.foreign) c.clear_places-2.ensures.foreign
