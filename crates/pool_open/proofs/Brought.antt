-- When the metas that don't count were cleared, the table without them is what a survey finds.
use Rattle.std.proofs.Common.{◌≡◌, ◌≢◌, ◌⊎◌, inl, inr, ℕ, true, List, [], ◌∷◌, Option, Some, None, Contains, get_or, length, take, refl, ap, sym, ◌∙◌, subst, IsTrue, arith}
use Rattle.std.specs.Prelude.{codes, ◌==◌, ◌-◌}
use Rattle.std.specs.Ordering.{nat_cmp}
use Rattle.std.specs.BTreeMap.{get}
use Rattle.std.specs.declared.vec.Vec.{Vec}
use Rattle.std.specs.declared.alloc.Global.{Global}
use Rattle.std.proofs.lemmas.Bool.{false≢true, cases_Bool, eqb-true, eq-eqb}
use Rattle.std.proofs.lemmas.Option.{same_Some}
use Rattle.std.proofs.lemmas.List.{take_all}
use Rattle.disk_model.specs.Files.{path_in}
use Rattle.disk_model.specs.Worlds.{World, IsListing, IsPresent}
use Rattle.volume_layout.specs.Paths.{IsBlockId, meta_path, own_dir, dir_path}
use Rattle.volume_layout.specs.declared.block_file.BlockFile.{BlockFile}
use Rattle.volume_layout.specs.declared.block_file.BlockFile.TheVariants.{Block, Meta, WritingBlock, WritingMeta}
use Rattle.volume_layout.specs.BlockFiles.{path_of, is_file}
use Rattle.map_model.specs.World.{DraftsAside}
use Rattle.map_model.specs.Slots.{Slot, empty, is_standing, slot_at, view_of}
use Rattle.map_model.proofs.Places.{bare_absent, absent_empty}
use Rattle.pool_state.specs.Stands.{IsVolume}
use Rattle.pool_survey.specs.declared.found.FoundFiles.{FoundFiles}
use Rattle.pool_survey.specs.declared.places.FoundOn.{FoundOn}
use Rattle.pool_survey.specs.declared.surveying_pool.PoolSurvey.{PoolSurvey}
use Rattle.pool_survey.specs.Exact.{IsExact}
use Rattle.pool_survey.specs.Places.{found_on, places_of, ArePoolBlocks, IsPoolSurveyOf}
use Rattle.pool_open.specs.Plan.{Place}
use Rattle.pool_open.specs.Surplus.{counted, left_stamps, surplus_stamps, surplus_on, surplus_of, IsTableBroughtDown}
use Rattle.pool_open.specs.Clearing.{cleared}
use Rattle.pool_open.proofs.Placed.{none_in, first_in, in_cases, flat_from, on_there, found_there}
use Rattle.pool_open.proofs.Counted.{surplus_from}
use Rattle.pool_open.proofs.Precedes.{map_from}
use Rattle.pool_open.proofs.Ordered.{clears_cleared}
use Rattle.pool_open.proofs.Fronts.{surplus, is_listed}
use Rattle.pool_open.proofs.Down.{IsDown, AreDown, found_down, counted_in}
use Rattle.pool_open.proofs.Gates.{IsNoMeta, file_here, slots, gone, listed_in, others_stay}

-- no meta stands in `tmp`
meta_not_temporary : (id stamp : ℕ) (name : List ℕ) → meta_path id stamp ≢ path_in (codes "tmp") name
unfolding meta_path own_dir dir_path
meta_not_temporary id stamp name same = let bad : 99 ≡ 116 = ap (λ (path : List ℕ). get_or path 0 0) same in omega (arith, bad)

-- where the same stands under each name of a directory, the same names are listed
present_as : (was now : World) (vol : ℕ) (dir name : List ℕ) → slot_at now vol (path_in dir name) ≡ slot_at was vol (path_in dir name) → IsPresent was vol dir name → IsPresent now vol dir name
present_as was now vol dir name same present = record {
  is_name = present.is_name;
  stands = λ absent. present.stands (bare_absent was vol (path_in dir name) (ap is_standing (sym same ∙ absent_empty now vol (path_in dir name) absent)));
}

listing_as : (was now : World) (vol : ℕ) (dir : List ℕ) → ((name : List ℕ) → slot_at now vol (path_in dir name) ≡ slot_at was vol (path_in dir name)) →
    (names : List (List ℕ)) → IsListing was vol dir names → IsListing now vol dir names
listing_as was now vol dir same names listing = record {
  sorted = listing.sorted;
  only = λ k d below. present_as was now vol dir _ (same _) (listing.only k d below);
  all = λ name present. listing.all name (present_as now was vol dir name (sym (same name)) present);
}

module _ (volumes : ℕ) (survey : PoolSurvey) (blocks : ArePoolBlocks volumes survey.blocks)
    (listed : (id : ℕ) (found : Vec FoundOn Global) → Contains survey.blocks.entries (id, found) → get nat_cmp survey.blocks id ≡ Some found)
    (was : World) (surveyed : IsPoolSurveyOf was volumes survey) (aside : DraftsAside was)
    (within : (vol : ℕ) (path : List ℕ) → IsTrue (is_standing (slot_at was vol path)) → IsVolume volumes vol)
    (now : World) (is : now ≡ cleared (surplus volumes survey blocks listed) was) where
  abbrev every : List Place
  every = surplus volumes survey blocks listed

  pub front : now ≡ cleared (take (length every) every) was
  front = is ∙ ap (λ (places : List Place). cleared places was) (sym (take_all (length every) every (omega arith)))

  -- ---- names in `tmp`

  not_surplus : (vol : ℕ) (name : List ℕ) → Contains every (vol, path_in (codes "tmp") name) → ⊥
  not_surplus vol name has =
      let one = flat_from surplus_of survey.blocks.entries (vol, path_in (codes "tmp") name) has in
      let at = flat_from (surplus_on one.0.0) one.0.1.items (vol, path_in (codes "tmp") name) one.2 in
      let on : FoundOn = at.0 in
      let meta = map_from (λ (stamp : ℕ). (on.vol, meta_path one.0.0 stamp)) (surplus_stamps (counted on.files) on.files.metas.items) (vol, path_in (codes "tmp") name) at.2 in
      meta_not_temporary one.0.0 meta.0 name (ap (λ (p : Place). p.1) meta.2)

  temporary_stays : (vol : ℕ) (name : List ℕ) → slot_at now vol (path_in (codes "tmp") name) ≡ slot_at was vol (path_in (codes "tmp") name)
  temporary_stays vol name = elim ((clears_cleared every was).each vol (path_in (codes "tmp") name)) [
    | inl same ↦ ap (λ (w : World). slot_at w vol (path_in (codes "tmp") name)) is ∙ same
    | inr went ↦ absurd (not_surplus vol name went.1)
  ]

  -- ---- the files of a block

  module _ (id : ℕ) (valid : IsBlockId id) where
    abbrev V : ℕ → BlockFile → Slot
    V = view_of was id

    abbrev N : ℕ → BlockFile → Slot
    N = view_of now id

    stays : (vol : ℕ) (f : BlockFile) → IsNoMeta f → N vol f ≡ V vol f
    stays = others_stay volumes survey blocks listed was surveyed aside within id valid now (length every) front

    parts : (vol : ℕ) (f : BlockFile) → (N vol f ≡ V vol f) ⊎ ((N vol f ≡ empty) × Contains (take (length every) every) (vol, path_of id f) × IsTrue (is_file f))
    parts = slots volumes survey blocks listed was surveyed aside within id valid now (length every) front

    -- what stands, stood
    stood : (vol : ℕ) (f : BlockFile) → IsTrue (is_standing (N vol f)) → IsTrue (is_standing (V vol f))
    stood vol f there = elim (parts vol f) [
      | inl same ↦ sym (ap is_standing same) ∙ there
      | inr went ↦ absurd (false≢true (sym (ap is_standing went.0) ∙ there))
    ]

    no_writing_meta : (stamp : ℕ) → IsNoMeta (WritingMeta stamp)
    no_writing_meta stamp other same = let bad : WritingMeta stamp ≡ Meta other = same in absurd cc

    block_is_no_meta : IsNoMeta Block
    block_is_no_meta stamp same = let bad : Block ≡ Meta stamp = same in absurd cc

    writing_is_no_meta : IsNoMeta WritingBlock
    writing_is_no_meta stamp same = let bad : WritingBlock ≡ Meta stamp = same in absurd cc

    module _ (vol : ℕ) where
      -- nothing was found on the volume
      none_exact : IsExact was vol id None → IsExact now vol id None
      none_exact exact = record {
        block = exact.block ∙ sym (ap is_standing (stays vol Block block_is_no_meta));
        metas = λ stamp. (λ has. absurd (none_in stamp has), λ there. (exact.metas stamp).1 (stood vol (Meta stamp) there));
        writing = exact.writing ∙ sym (ap is_standing (stays vol WritingBlock writing_is_no_meta));
        writing_metas = λ stamp. (λ has. absurd (none_in stamp has), λ there. (exact.writing_metas stamp).1 (stood vol (WritingMeta stamp) there));
      }

      -- something was
      module _ (files left : FoundFiles) (found : found_on (places_of survey.blocks id) vol ≡ Some files) (down : IsDown files left) (exact : IsExact was vol id (Some files)) where
        gone_from : (stamp : ℕ) → Contains (take (length every) every) (vol, path_of id (Meta stamp)) → IsTrue (is_file (Meta stamp)) → Contains (surplus_stamps (counted files) files.metas.items) stamp
        gone_from stamp has file =
            let it = listed_in volumes survey blocks listed was surveyed aside within id valid now (length every) front vol (Meta stamp) file has in
            let on : FoundOn = it.on in
            let same : on.files ≡ files = same_Some on.files files (sym (found_there (places_of survey.blocks id) (blocks.places id).rise on it.has) ∙ ap (found_on (places_of survey.blocks id)) it.here ∙ found) in
            let stamps : it.stamp ≡ stamp = stamp_same it.stamp stamp (sym it.file) in
            subst (λ n. Contains (surplus_stamps (counted files) files.metas.items) n) stamps
            (subst (λ (f : FoundFiles). Contains (surplus_stamps (counted f) f.metas.items) it.stamp) same it.among)
          where
            stamp_of : BlockFile → ℕ
            stamp_of (Meta stamp) = stamp
            stamp_of f = 0

            stamp_same : (one other : ℕ) → Meta one ≡ Meta other → one ≡ other
            stamp_same one other same = ap stamp_of same

        surplus_gone : (kept stamp : ℕ) → counted files ≡ Some kept → Contains files.metas.items stamp → stamp ≢ kept → IsTrue (is_file (Meta stamp)) → N vol (Meta stamp) ≡ empty
        surplus_gone kept stamp counts has apart file =
            let on = on_there (places_of survey.blocks id) vol files found in
            let in_all : Contains every (on.0.vol, meta_path id stamp) =
            is_listed volumes survey blocks listed id valid on.0 on.1 kept stamp (ap counted on.3 ∙ counts) (subst (λ (f : FoundFiles). Contains f.metas.items stamp) (sym on.3) has) apart in
            let here : Contains every (vol, path_of id (Meta stamp)) = subst (λ v. Contains every (v, meta_path id stamp)) on.2 in_all in
            gone volumes survey blocks listed was surveyed aside within id valid now (length every) front vol (Meta stamp) file
            (subst (λ (places : List Place). Contains places (vol, path_of id (Meta stamp))) (sym (take_all (length every) every (omega arith))) here)

        file_of : (stamp : ℕ) → IsTrue (is_standing (V vol (Meta stamp))) → IsTrue (is_file (Meta stamp))
        file_of stamp there = file_here volumes survey blocks listed was surveyed aside within id valid vol (Meta stamp) there

        metas_by : (kept : Option ℕ) → counted files ≡ kept → (stamp : ℕ) → (Contains (left_stamps kept files.metas.items) stamp → IsTrue (is_standing (N vol (Meta stamp))))
            × (IsTrue (is_standing (N vol (Meta stamp))) → Contains (left_stamps kept files.metas.items) stamp)
        metas_by None counts stamp = (
          λ has. elim (parts vol (Meta stamp)) [
            | inl same ↦ ap is_standing same ∙ (exact.metas stamp).0 has
            | inr went ↦ absurd (none_in stamp (subst (λ (o : Option ℕ). Contains (surplus_stamps o files.metas.items) stamp) counts (gone_from stamp went.1 went.2)))
          ],
          λ there. (exact.metas stamp).1 (stood vol (Meta stamp) there),
        )
        metas_by (Some kept) counts stamp = (
          λ has. elim (in_cases kept [] stamp has) [
            | inr later ↦ absurd (none_in stamp later)
            | inl same_stamp ↦ elim (parts vol (Meta stamp)) [
              | inl same ↦ ap is_standing same ∙ (exact.metas stamp).0 (subst (λ n. Contains files.metas.items n) same_stamp (counted_in files kept counts))
              | inr went ↦
                  let apart = (surplus_from kept files.metas.items stamp (subst (λ (o : Option ℕ). Contains (surplus_stamps o files.metas.items) stamp) counts (gone_from stamp went.1 went.2))).1 in
                  elim apart [ inl low ↦ absurd (omega (arith, low, same_stamp)) | inr high ↦ absurd (omega (arith, high, same_stamp)) ]
            ]
          ],
          λ there.
              let before = stood vol (Meta stamp) there in
              elim (cases_Bool (stamp == kept)) [
                | inl same ↦ subst (λ n. Contains (kept ∷ []) n) (sym (eqb-true stamp kept same)) (first_in kept [])
                | inr apart ↦ absurd (false≢true (sym (ap is_standing (surplus_gone kept stamp counts ((exact.metas stamp).1 before) (λ same. absurd (false≢true (sym apart ∙ eq_is stamp kept same))) (file_of stamp before))) ∙ there))
              ],
        )
          where
            eq_is : (a b : ℕ) → a ≡ b → (a == b) ≡ true
            eq_is a b same = eq-eqb a b same

        some_exact : IsExact now vol id (Some left)
        some_exact = record {
          block = down.block ∙ exact.block ∙ sym (ap is_standing (stays vol Block block_is_no_meta));
          metas = λ stamp. subst (λ (items : List ℕ). (Contains items stamp → IsTrue (is_standing (N vol (Meta stamp)))) × (IsTrue (is_standing (N vol (Meta stamp))) → Contains items stamp)) (sym down.metas)
              (metas_by (counted files) refl stamp);
          writing = down.writing ∙ exact.writing ∙ sym (ap is_standing (stays vol WritingBlock writing_is_no_meta));
          writing_metas = λ stamp. (
            λ has. ap is_standing (stays vol (WritingMeta stamp) (no_writing_meta stamp)) ∙ (exact.writing_metas stamp).0 (subst (λ (items : List ℕ). Contains items stamp) down.writing_metas has),
            λ there. subst (λ (items : List ℕ). Contains items stamp) (sym down.writing_metas) ((exact.writing_metas stamp).1 (stood vol (WritingMeta stamp) there)),
          );
        }

      exact_by : (files left : Option FoundFiles) → found_on (places_of survey.blocks id) vol ≡ files → AreDown files left → IsExact was vol id files → IsExact now vol id left
      exact_by None None found down exact = none_exact exact
      exact_by None (Some left) found down exact = absurd down
      exact_by (Some files) None found down exact = absurd down
      exact_by (Some files) (Some left) found down exact = some_exact files left found down exact

  -- THE TABLE IS THE SURVEY OF WHAT IS LEFT
  pub surveyed_down : (table : PoolSurvey) → IsTableBroughtDown survey.blocks table.blocks → table.temporary ≡ survey.temporary → IsPoolSurveyOf now volumes table
  surveyed_down table brought temporary = record {
    blocks = λ id valid vol low high. exact_by id valid vol (found_on (places_of survey.blocks id) vol) (found_on (places_of table.blocks id) vol) refl
        (found_down (places_of survey.blocks id) (places_of table.blocks id) (brought id) vol) (surveyed.blocks id valid vol low high);
    counted = ap (λ (names : Vec (List (List ℕ)) Global). length names.items) temporary ∙ surveyed.counted;
    temporary = λ vol low high. listing_as was now vol (codes "tmp") (temporary_stays vol) _
        (subst (λ (names : _). IsListing was vol (codes "tmp") (get_or names.items (vol - 1) [])) (sym temporary) (surveyed.temporary vol low high));
  }
