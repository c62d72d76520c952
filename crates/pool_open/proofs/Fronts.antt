-- The metas that don't count, as a list of places, and what is left of a block when the first of them were cleared.
use Rattle.std.proofs.Common.{◌≡◌, ◌≢◌, ◌⊎◌, ◌<◌, inl, inr, ℕ, List, ◌++◌, Option, Some, None, Contains, map, refl, ap, sym, ◌∙◌, subst, IsTrue, arith}
use Rattle.std.specs.Ordering.{nat_cmp}
use Rattle.std.specs.BTreeMap.{get}
use Rattle.std.specs.declared.vec.Vec.{Vec}
use Rattle.std.specs.declared.alloc.Global.{Global}
use Rattle.std.proofs.lemmas.Bool.Decides.{eqb_tells}
use Rattle.std.proofs.lemmas.List.{map-append}
use Rattle.std.proofs.lemmas.List.Elements.{All-contains}
use Rattle.std.proofs.lemmas.Option.{same_Some}
use Rattle.volume_layout.specs.Paths.{IsBlockId, IsStamp, meta_path}
use Rattle.volume_layout.specs.declared.block_file.BlockFile.{BlockFile}
use Rattle.volume_layout.specs.declared.block_file.BlockFile.TheVariants.{Block, Meta, WritingBlock, WritingMeta, TemporaryBlock, TemporaryMeta}
use Rattle.volume_layout.specs.BlockFiles.{path_of, is_file}
use Rattle.volume_layout.proofs.Reading.{is_stamp-IsStamp, path_id}
use Rattle.map_model.proofs.Bridge.{path_id-file, path_of-injective}
use Rattle.pool_survey.specs.declared.places.FoundOn.{FoundOn}
use Rattle.pool_survey.specs.declared.surveying_pool.PoolSurvey.{PoolSurvey}
use Rattle.pool_survey.specs.Regions.{AreFiles}
use Rattle.pool_survey.specs.Places.{found_on, places_of, ArePoolBlocks}
use Rattle.pool_open.specs.Plan.{Place}
use Rattle.pool_open.specs.Surplus.{counted, below, above, surplus_stamps, surplus_on, surplus_of, surplus_places}
use Rattle.pool_open.proofs.Lists.{flat_contains, map_contains, found_listed}
use Rattle.pool_open.proofs.Placed.{none_in, found_there, places_here, no_places, flat_from}
use Rattle.pool_open.proofs.Counted.{in_below, from_below, surplus_in, surplus_from}
use Rattle.pool_open.proofs.Precedes.{Precedes, map_from, precedes_left, precedes_flat}

-- which stamp a meta has
abbrev stamp_of : BlockFile → ℕ
stamp_of Block = 0
stamp_of (Meta stamp) = stamp
stamp_of WritingBlock = 0
stamp_of (WritingMeta stamp) = stamp
stamp_of TemporaryBlock = 0
stamp_of (TemporaryMeta stamp) = stamp

-- a stamp that doesn't count is one of those that were found
pub surplus_found : (kept : Option ℕ) (stamps : List ℕ) (stamp : ℕ) → Contains (surplus_stamps kept stamps) stamp → Contains stamps stamp
surplus_found None stamps stamp has = absurd (none_in stamp has)
surplus_found (Some kept) stamps stamp has = (surplus_from kept stamps stamp has).0

module _ (volumes : ℕ) (survey : PoolSurvey) (blocks : ArePoolBlocks volumes survey.blocks)
    (listed : (id : ℕ) (found : Vec FoundOn Global) → Contains survey.blocks.entries (id, found) → get nat_cmp survey.blocks id ≡ Some found) where
  abbrev pub surplus : List Place
  surplus = surplus_places survey.blocks.entries

  abbrev Entry : Type 0
  Entry = ℕ × Vec FoundOn Global

  -- ---- what was found

  in_places : (entry : Entry) → Contains survey.blocks.entries entry → (on : FoundOn) → Contains entry.1.items on → Contains (places_of survey.blocks entry.0) on
  in_places entry has on there = subst (λ (places : List FoundOn). Contains places on) (sym (places_here survey.blocks entry.0 entry.1 (listed entry.0 entry.1 has))) there

  entry_valid : (entry : Entry) → Contains survey.blocks.entries entry → IsBlockId entry.0
  entry_valid entry has = blocks.ids entry.0 entry.1 (listed entry.0 entry.1 has)

  in_range : (id : ℕ) (on : FoundOn) → Contains (places_of survey.blocks id) on → (stamp : ℕ) → Contains on.files.metas.items stamp → IsStamp stamp
  in_range id on has stamp there = All-contains IsStamp on.files.metas.items stamp
      (All-contains (λ (o : FoundOn). AreFiles (Some o.files)) (places_of survey.blocks id) on (blocks.places id).files has).metas.in_range there

  meta_file : (id : ℕ) (on : FoundOn) → Contains (places_of survey.blocks id) on → (stamp : ℕ) → Contains on.files.metas.items stamp → IsTrue (is_file (Meta stamp))
  meta_file id on has stamp there = is_stamp-IsStamp stamp (in_range id on has stamp there)

  -- one place of a block is that on its volume
  pub one_place : (id : ℕ) (on other : FoundOn) → Contains (places_of survey.blocks id) on → Contains (places_of survey.blocks id) other → other.vol ≡ on.vol → other ≡ on
  one_place id on other has has_other vols =
      let rise = (blocks.places id).rise in
      let files : other.files ≡ on.files = same_Some other.files on.files
      (sym (found_there (places_of survey.blocks id) rise other has_other) ∙ ap (found_on (places_of survey.blocks id)) vols ∙ found_there (places_of survey.blocks id) rise on has) in
      λ i. record { vol = vols i; files = files i }

  -- ---- a place that is listed

  pub record IsListedMeta (id vol : ℕ) (f : BlockFile) : Type 0 where
    pub stamp : ℕ
    pub file : f ≡ Meta stamp
    pub on : FoundOn
    pub has : Contains (places_of survey.blocks id) on
    pub here : on.vol ≡ vol
    pub among : Contains (surplus_stamps (counted on.files) on.files.metas.items) stamp

  pub listed_meta : (id vol : ℕ) (f : BlockFile) → IsBlockId id → IsTrue (is_file f) → Contains surplus (vol, path_of id f) → IsListedMeta id vol f
  listed_meta id vol f valid is has =
      let one = flat_from surplus_of survey.blocks.entries (vol, path_of id f) has in
      let entry : Entry = one.0 in
      let at = flat_from (surplus_on entry.0) entry.1.items (vol, path_of id f) one.2 in
      let on : FoundOn = at.0 in
      let within = in_places entry one.1 on at.1 in
      let meta = map_from (λ (stamp : ℕ). (on.vol, meta_path entry.0 stamp)) (surplus_stamps (counted on.files) on.files.metas.items) (vol, path_of id f) at.2 in
      let vols : on.vol ≡ vol = ap (λ (p : Place). p.0) meta.2 in
      let paths : path_of entry.0 (Meta meta.0) ≡ path_of id f = ap (λ (p : Place). p.1) meta.2 in
      let found = surplus_found (counted on.files) on.files.metas.items meta.0 meta.1 in
      let stamped = meta_file entry.0 on within meta.0 found in
      let ids : entry.0 ≡ id = sym (path_id-file entry.0 (Meta meta.0) (entry_valid entry one.1) stamped) ∙ ap path_id paths ∙ path_id-file id f valid is in
      let files : Meta meta.0 ≡ f = path_of-injective id (Meta meta.0) f valid stamped is (subst (λ n. path_of n (Meta meta.0) ≡ path_of id f) ids paths) in
      record { stamp = meta.0; file = sym files; on = on; has = subst (λ n. Contains (places_of survey.blocks n) on) ids within; here = vols; among = meta.1 }

  -- ---- and one that is cleared before another

  module _ (id : ℕ) (valid : IsBlockId id) (on : FoundOn) (has : Contains (places_of survey.blocks id) on) where
    abbrev At : ℕ → Place
    At stamp = (on.vol, meta_path id stamp)

    entry_here : (found : Vec FoundOn Global) × (get nat_cmp survey.blocks id ≡ Some found) × Contains found.items on
    entry_here = by (get nat_cmp survey.blocks id) refl
      where
        by : (o : Option (Vec FoundOn Global)) → get nat_cmp survey.blocks id ≡ o → (found : Vec FoundOn Global) × (get nat_cmp survey.blocks id ≡ Some found) × Contains found.items on
        by None none = absurd (none_in on (subst (λ (places : List FoundOn). Contains places on) (no_places survey.blocks id none) has))
        by (Some found) is = (found, is, subst (λ (places : List FoundOn). Contains places on) (places_here survey.blocks id found is) has)

    same_stamp : (one other : ℕ) → Contains on.files.metas.items one → Contains on.files.metas.items other → At one ≡ At other → one ≡ other
    same_stamp one other has_one has_other same =
        ap stamp_of (path_of-injective id (Meta one) (Meta other) valid (meta_file id on has one has_one) (meta_file id on has other has_other) (ap (λ (p : Place). p.1) same))

    -- the metas that don't count, on the block's volume
    pub is_listed : (kept stamp : ℕ) → counted on.files ≡ Some kept → Contains on.files.metas.items stamp → stamp ≢ kept → Contains surplus (At stamp)
    is_listed kept stamp counts there apart =
        let found = entry_here in
        let among : Contains (surplus_stamps (counted on.files) on.files.metas.items) stamp =
        subst (λ (o : Option ℕ). Contains (surplus_stamps o on.files.metas.items) stamp) (sym counts) (surplus_in kept on.files.metas.items stamp there apart) in
        flat_contains surplus_of survey.blocks.entries (id, found.0) (At stamp) (found_listed id survey.blocks.entries found.0 found.1)
        (flat_contains (surplus_on id) found.0.items on (At stamp) found.2 (map_contains At (surplus_stamps (counted on.files) on.files.metas.items) stamp among))

    module _ (kept less more : ℕ) (counts : counted on.files ≡ Some kept) (has_less : Contains on.files.metas.items less) (has_more : Contains on.files.metas.items more)
        (low : less < kept) (high : kept < more) where
      abbrev stamps : List ℕ
      stamps = on.files.metas.items

      here_before : Precedes (surplus_on id on) (At less) (At more)
      here_before =
          let split : surplus_on id on ≡ map At (below kept stamps) ++ map At (above kept stamps) =
          ap (λ (o : Option ℕ). map At (surplus_stamps o stamps)) counts ∙ map-append At (below kept stamps) (above kept stamps) in
          subst (λ (l : List Place). Precedes l (At less) (At more)) (sym split)
          (precedes_left (At less) (At more) (map At (below kept stamps)) (map At (above kept stamps))
          (map_contains At (below kept stamps) less (in_below kept stamps less has_less low))
          (λ in_low.
          let one = map_from At (below kept stamps) (At more) in_low in
          let from = from_below kept stamps one.0 one.1 in
          let same = same_stamp one.0 more from.0 has_more one.2 in
          omega (arith, from.1, same, high)))

      less_here : Contains (surplus_on id on) (At less)
      less_here = map_contains At (surplus_stamps (counted on.files) stamps) less
          (subst (λ (o : Option ℕ). Contains (surplus_stamps o stamps) less) (sym counts) (surplus_in kept stamps less has_less (λ same. omega (arith, same, low))))

      other_places : (found : Vec FoundOn Global) → get nat_cmp survey.blocks id ≡ Some found → (other : FoundOn) → Contains found.items other →
          (other ≡ on) ⊎ (Contains (surplus_on id other) (At more) → ⊥)
      other_places found is other there = elim (eqb_tells other.vol on.vol) [
        | inl same ↦ inl (one_place id on other has (subst (λ (places : List FoundOn). Contains places other) (sym (places_here survey.blocks id found is)) there) same.1)
        | inr apart ↦ inr (λ among. apart.1 (ap (λ (p : Place). p.0)
            (map_from (λ (stamp : ℕ). (other.vol, meta_path id stamp)) (surplus_stamps (counted other.files) other.files.metas.items) (At more) among).2))
      ]

      other_entries : (found : Vec FoundOn Global) → get nat_cmp survey.blocks id ≡ Some found → (entry : Entry) → Contains survey.blocks.entries entry →
          (entry ≡ (id, found)) ⊎ (Contains (surplus_of entry) (At more) → ⊥)
      other_entries found is entry there = elim (eqb_tells entry.0 id) [
        | inl same ↦
            let values : entry.1 ≡ found = same_Some entry.1 found (sym (listed entry.0 entry.1 there) ∙ ap (get nat_cmp survey.blocks) same.1 ∙ is) in
            inl (λ i. (same.1 i, values i))
        | inr apart ↦ inr (λ among.
            let at = flat_from (surplus_on entry.0) entry.1.items (At more) among in
            let other : FoundOn = at.0 in
            let meta = map_from (λ (stamp : ℕ). (other.vol, meta_path entry.0 stamp)) (surplus_stamps (counted other.files) other.files.metas.items) (At more) at.2 in
            let stamped = meta_file entry.0 other (in_places entry there other at.1) meta.0 (surplus_found (counted other.files) other.files.metas.items meta.0 meta.1) in
            apart.1 (sym (path_id-file entry.0 (Meta meta.0) (entry_valid entry there) stamped) ∙ ap path_id (ap (λ (p : Place). p.1) meta.2)
            ∙ path_id-file id (Meta more) valid (meta_file id on has more has_more)))
      ]

      pub smaller_first : Precedes surplus (At less) (At more)
      smaller_first =
          let found = entry_here in
          precedes_flat (At less) (At more) surplus_of survey.blocks.entries (id, found.0) (found_listed id survey.blocks.entries found.0 found.1) (other_entries found.0 found.1)
          (flat_contains (surplus_on id) found.0.items on (At less) found.2 less_here)
          (precedes_flat (At less) (At more) (surplus_on id) found.0.items on found.2 (other_places found.0 found.1) less_here here_before)
