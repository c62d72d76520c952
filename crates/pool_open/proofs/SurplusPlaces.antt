-- The metas that don't count stand on volumes of the pool, and are a block's.
use Rattle.std.proofs.Common.{◌≡◌, ℕ, List, Some, All, Contains, sym, subst}
use Rattle.std.specs.Ordering.{nat_cmp}
use Rattle.std.specs.BTreeMap.{get}
use Rattle.std.specs.declared.vec.Vec.{Vec}
use Rattle.std.specs.declared.alloc.Global.{Global}
use Rattle.std.proofs.lemmas.List.Elements.{All-contains}
use Rattle.volume_layout.specs.Paths.{IsBlockId, IsStamp, meta_path}
use Rattle.pool_state.specs.Stands.{IsVolume}
use Rattle.pool_survey.specs.declared.places.FoundOn.{FoundOn}
use Rattle.pool_survey.specs.declared.surveying_pool.PoolSurvey.{PoolSurvey}
use Rattle.pool_survey.specs.Regions.{AreFiles}
use Rattle.pool_survey.specs.Places.{places_of, ArePoolBlocks}
use Rattle.pool_open.specs.Plan.{Place}
use Rattle.pool_open.specs.Clearing.{IsOnVolumes, AreOnVolumes}
use Rattle.pool_open.specs.Ours.{IsOurs, AreOurs}
use Rattle.pool_open.specs.Surplus.{counted, surplus_stamps, surplus_on, surplus_of, surplus_places}
use Rattle.pool_open.proofs.Lists.{flat_all, map_all}
use Rattle.pool_open.proofs.Placed.{places_here}
use Rattle.pool_open.proofs.Fronts.{surplus_found}
use Rattle.pool_open.proofs.Ours.{meta_is_ours}

module _ (volumes : ℕ) (survey : PoolSurvey) (blocks : ArePoolBlocks volumes survey.blocks)
    (listed : All (λ (entry : ℕ × Vec FoundOn Global). get nat_cmp survey.blocks entry.0 ≡ Some entry.1) survey.blocks.entries) where
  -- what holds of each finalised meta that was found holds of each that doesn't count
  surplus_each : (P : Place → Type 0) → ((id vol stamp : ℕ) → IsBlockId id → IsVolume volumes vol → IsStamp stamp → P (vol, meta_path id stamp)) → All P (surplus_places survey.blocks.entries)
  surplus_each P each = flat_all P surplus_of survey.blocks.entries (λ entry has.
      let is : get nat_cmp survey.blocks entry.0 ≡ Some entry.1 =
      All-contains (λ (entry : ℕ × Vec FoundOn Global). get nat_cmp survey.blocks entry.0 ≡ Some entry.1) survey.blocks.entries entry listed has in
      flat_all P (surplus_on entry.0) entry.1.items (λ on there.
      let within : Contains (places_of survey.blocks entry.0) on = subst (λ (places : List FoundOn). Contains places on) (sym (places_here survey.blocks entry.0 entry.1 is)) there in
      let are = blocks.places entry.0 in
      let files = All-contains (λ (on : FoundOn). AreFiles (Some on.files)) (places_of survey.blocks entry.0) on are.files within in
      map_all P (λ (stamp : ℕ). (on.vol, meta_path entry.0 stamp)) (surplus_stamps (counted on.files) on.files.metas.items) (λ stamp among.
      each entry.0 on.vol stamp (blocks.ids entry.0 entry.1 is) (All-contains (λ (on : FoundOn). IsVolume volumes on.vol) (places_of survey.blocks entry.0) on are.on_volumes within)
      (All-contains IsStamp on.files.metas.items stamp files.metas.in_range (surplus_found (counted on.files) on.files.metas.items stamp among)))))

  pub surplus_on_volumes : AreOnVolumes volumes (surplus_places survey.blocks.entries)
  surplus_on_volumes = surplus_each (IsOnVolumes volumes) (λ id vol stamp valid there stamped. there)

  pub surplus_ours : AreOurs (surplus_places survey.blocks.entries)
  surplus_ours = surplus_each IsOurs (λ id vol stamp valid there stamped. meta_is_ours vol id stamp valid stamped)
