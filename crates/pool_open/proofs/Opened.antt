-- A world that was surveyed, and what an opening leaves of its blocks.
use Rattle.std.proofs.Common.{◌≡◌, ◌⊎◌, ◌≤◌, ◌-◌, inl, inr, ℕ, Bool, true, false, List, [], Option, Some, None, Contains, length, get_or, refl, ap, sym, ◌∙◌, subst, IsTrue}
use Rattle.std.specs.Prelude.{codes}
use Rattle.std.specs.Ordering.{nat_cmp}
use Rattle.std.specs.BTreeMap.{get}
use Rattle.std.specs.declared.vec.Vec.{Vec}
use Rattle.std.specs.declared.alloc.Global.{Global}
use Rattle.std.proofs.lemmas.Bool.{false≢true, cases_Bool}
use Rattle.std.proofs.lemmas.List.Elements.{All-contains}
use Rattle.std.proofs.lemmas.Option.{none-some}
use Rattle.disk_model.specs.Files.{path_in}
use Rattle.disk_model.specs.Worlds.{World, IsListing}
use Rattle.disk_model.specs.Told.{IsWorldOf}
use Rattle.volume_layout.specs.Paths.{IsBlockId, IsStamp, block_path}
use Rattle.map_model.specs.World.{DraftsAside}
use Rattle.volume_layout.specs.declared.block_file.BlockFile.{BlockFile}
use Rattle.volume_layout.specs.declared.block_file.BlockFile.TheVariants.{Block, Meta, WritingBlock, WritingMeta, TemporaryBlock, TemporaryMeta}
use Rattle.volume_layout.specs.BlockFiles.{path_of, dir_of, name_of, is_file, is_aside_file}
use Rattle.map_model.specs.Slots.{Slot, empty, holds, drafted, is_standing, slot_of, slot_at, view_of}
use Rattle.map_model.specs.Stands.{IsFinalised}
use Rattle.map_model.proofs.Bridge.{view_slot, view_absent}
use Rattle.map_model.proofs.Places.{no_number}
use Rattle.map_model.proofs.Aside.{aside_not_drafted, aside_no_draft}
use Rattle.map_model.proofs.Directories.{path_in_own_dir, file_listed}
use Rattle.pool_state.specs.Stands.{IsVolume}
use Rattle.pool_survey.specs.declared.found.FoundFiles.{FoundFiles}
use Rattle.pool_survey.specs.declared.places.FoundOn.{FoundOn}
use Rattle.pool_survey.specs.declared.surveying_pool.PoolSurvey.{PoolSurvey}
use Rattle.pool_survey.specs.Found.{has_block, metas_of}
use Rattle.pool_survey.specs.Regions.{AreFiles}
use Rattle.pool_survey.specs.Directories.{is_looked_for}
use Rattle.pool_survey.specs.Exact.{IsExact}
use Rattle.pool_survey.specs.Places.{found_on, places_of, ArePoolBlocks, IsPoolSurveyOf}
use Rattle.pool_open.specs.Plan.{Place, copy_stamp, cleared_places}
use Rattle.pool_open.specs.Found.{IsSizeOf}
use Rattle.pool_open.specs.Clearing.{Clears, AreClear}
use Rattle.pool_open.proofs.Lists.{found_listed}
use Rattle.pool_open.proofs.Placed.{on_there, found_there, places_here, no_places}
use Rattle.pool_open.proofs.Planned.{IsFound, found_some, goes, IsListedTable, goes_only, clears_temporary, clears_going}
use Rattle.pool_open.proofs.Blocks.{slot_bytes, IsShown, Partly, len_on, was_standing}

-- what isn't a file doesn't stand
pub no_file : (world : World) (id vol : ℕ) (f : BlockFile) → is_file f ≡ false → view_of world id vol f ≡ empty
unfolding view_of
no_file world id vol f isnt = rw isnt refl

not_standing : (slot : Slot) → slot ≡ empty → IsTrue (is_standing slot) → ⊥
not_standing slot is there = false≢true (sym (ap is_standing is) ∙ there)

finalised_apart : (f : BlockFile) → IsFinalised f → is_aside_file f ≡ false
finalised_apart Block is = refl
finalised_apart (Meta stamp) is = refl
finalised_apart WritingBlock is = absurd is
finalised_apart (WritingMeta stamp) is = absurd is
finalised_apart TemporaryBlock is = absurd is
finalised_apart (TemporaryMeta stamp) is = absurd is

-- the table of a survey with at most one meta beside a block file
pub record IsTable (volumes : ℕ) (survey : PoolSurvey) : Type 0 where
  pub blocks : ArePoolBlocks volumes survey.blocks
  pub few : (id vol : ℕ) → has_block (found_on (places_of survey.blocks id) vol) ≡ true → length (metas_of (found_on (places_of survey.blocks id) vol)) ≤ 1
  pub listed : (id : ℕ) (found : Vec FoundOn Global) → Contains survey.blocks.entries (id, found) → get nat_cmp survey.blocks id ≡ Some found

-- a world that was surveyed
pub record IsSurveyed (volumes : ℕ) (survey : PoolSurvey) (was : World) : Type 0 where
  pub exact : IsPoolSurveyOf was volumes survey
  pub aside : DraftsAside was
  pub within : (vol : ℕ) (path : List ℕ) → IsTrue (is_standing (slot_at was vol path)) → IsVolume volumes vol

abbrev pub plan_of : (ℕ → Option ℕ) → PoolSurvey → List Place
plan_of kept survey = cleared_places kept survey.blocks.entries survey.temporary.items

-- a copy is on the volume where one is kept
abbrev pub KeepsWhole : (ℕ → Option ℕ) → PoolSurvey → Type 0
KeepsWhole kept survey = (id : ℕ) (on : FoundOn) → Contains (places_of survey.blocks id) on → (own : ℕ) → kept id ≡ Some own → on.vol ≡ own → copy_stamp on.files ≡ None → ⊥

-- what was found of a block
abbrev pub found_at : PoolSurvey → ℕ → ℕ → Option FoundFiles
found_at survey id = found_on (places_of survey.blocks id)

module _ (volumes : ℕ) (survey : PoolSurvey) (table : IsTable volumes survey) where
  pub files_are : (id : ℕ) (on : FoundOn) → Contains (places_of survey.blocks id) on → AreFiles (Some on.files)
  files_are id on has = All-contains (λ (on : FoundOn). AreFiles (Some on.files)) (places_of survey.blocks id) on (table.blocks.places id).files has

  module _ (kept : ℕ → Option ℕ) (whole : KeepsWhole kept survey) where
    in_places : (id : ℕ) (found : Vec FoundOn Global) → Contains survey.blocks.entries (id, found) → (on : FoundOn) → Contains found.items on → Contains (places_of survey.blocks id) on
    in_places id found has on there = subst (λ (places : List FoundOn). Contains places on) (sym (places_here survey.blocks id found (table.listed id found has))) there

    listed_table : IsListedTable kept (places_of survey.blocks) survey.blocks.entries
    listed_table = record {
      valid = λ id found has. table.blocks.ids id found (table.listed id found has);
      found = λ id found has on there. found_there (places_of survey.blocks id) (table.blocks.places id).rise on (in_places id found has on there);
      metas = λ id found has on there stamp has_stamp. All-contains IsStamp on.files.metas.items stamp (files_are id on (in_places id found has on there)).metas.in_range has_stamp;
      writing_metas = λ id found has on there stamp has_stamp.
          All-contains IsStamp on.files.writing_metas.items stamp (files_are id on (in_places id found has on there)).writing_metas.in_range has_stamp;
      whole = λ id found has on there own at here none. whole id on (in_places id found has on there) own at here none;
    }

    plan_goes : (vol id : ℕ) (file : BlockFile) → IsBlockId id → IsTrue (is_file file) → Contains (plan_of kept survey) (vol, path_of id file) → goes (kept id) (found_at survey id vol) vol file ≡ true
    plan_goes vol id file valid is has = goes_only kept (places_of survey.blocks) survey.blocks.entries survey.temporary.items listed_table vol id file valid is has

    plan_has : (id vol : ℕ) (file : BlockFile) → IsFound (found_at survey id vol) file → goes (kept id) (found_at survey id vol) vol file ≡ true → Contains (plan_of kept survey) (vol, path_of id file)
    plan_has id vol file is it = by (get nat_cmp survey.blocks id) refl
      where
        by : (o : Option (Vec FoundOn Global)) → get nat_cmp survey.blocks id ≡ o → Contains (plan_of kept survey) (vol, path_of id file)
        by None none = absurd (none-some (found_some (found_at survey id vol) file is).0
            (sym (ap (λ (places : List FoundOn). found_on places vol) (no_places survey.blocks id none)) ∙ (found_some (found_at survey id vol) file is).1))
        by (Some found) some =
            let same : found_at survey id vol ≡ found_on found.items vol = ap (λ (places : List FoundOn). found_on places vol) (places_here survey.blocks id found some) in
            clears_going kept survey.blocks.entries survey.temporary.items id found (found_listed id survey.blocks.entries found some) vol file
            (subst (λ (o : Option FoundFiles). IsFound o file) same is) (subst (λ (o : Option FoundFiles). goes (kept id) o vol file ≡ true) same it)

  module _ (was : World) (surveyed : IsSurveyed volumes survey was) (id : ℕ) (valid : IsBlockId id) where
    standing_file : (vol : ℕ) (f : BlockFile) → IsTrue (is_standing (view_of was id vol f)) → IsTrue (is_file f)
    standing_file vol f there = elim (cases_Bool (is_file f)) [ inl is ↦ is | inr isnt ↦ absurd (not_standing (view_of was id vol f) (no_file was id vol f isnt) there) ]

    was_within : (vol : ℕ) (f : BlockFile) → IsTrue (is_standing (view_of was id vol f)) → IsVolume volumes vol
    was_within vol f there = surveyed.within vol (path_of id f) (sym (ap is_standing (view_slot was id vol f (standing_file vol f there))) ∙ there)

    found_within : (vol : ℕ) (f : BlockFile) → IsFound (found_at survey id vol) f → IsVolume volumes vol
    found_within vol f is =
        let some = found_some (found_at survey id vol) f is in
        let on = on_there (places_of survey.blocks id) vol some.0 some.1 in
        subst (λ v. IsVolume volumes v) on.2 (All-contains (λ (on : FoundOn). IsVolume volumes on.vol) (places_of survey.blocks id) on.0 (table.blocks.places id).on_volumes on.1)

    exact_on : (vol : ℕ) → IsVolume volumes vol → IsExact was vol id (found_at survey id vol)
    exact_on vol there = surveyed.exact.blocks id valid vol there.0 there.1

    found_stands : (vol : ℕ) (f : BlockFile) → IsExact was vol id (found_at survey id vol) → IsFound (found_at survey id vol) f → IsTrue (is_standing (view_of was id vol f))
    found_stands vol Block exact is = sym exact.block ∙ is
    found_stands vol (Meta stamp) exact is = (exact.metas stamp).0 is
    found_stands vol WritingBlock exact is = sym exact.writing ∙ is
    found_stands vol (WritingMeta stamp) exact is = (exact.writing_metas stamp).0 is
    found_stands vol TemporaryBlock exact is = absurd is
    found_stands vol (TemporaryMeta stamp) exact is = absurd is

    stands_found : (vol : ℕ) (f : BlockFile) → IsExact was vol id (found_at survey id vol) → is_looked_for f ≡ true → IsTrue (is_standing (view_of was id vol f)) → IsFound (found_at survey id vol) f
    stands_found vol Block exact looked there = exact.block ∙ there
    stands_found vol (Meta stamp) exact looked there = (exact.metas stamp).1 there
    stands_found vol WritingBlock exact looked there = exact.writing ∙ there
    stands_found vol (WritingMeta stamp) exact looked there = (exact.writing_metas stamp).1 there
    stands_found vol TemporaryBlock exact looked there = absurd (false≢true looked)
    stands_found vol (TemporaryMeta stamp) exact looked there = absurd (false≢true looked)

    not_drafted : (vol : ℕ) (f : BlockFile) (number : ℕ) → IsFinalised f → view_of was id vol f ≡ drafted number → ⊥
    not_drafted vol f number finalised drafts =
        aside_not_drafted id vol f was number (standing_file vol f (ap is_standing drafts)) (finalised_apart f finalised) surveyed.aside drafts

    pub shown : IsShown (found_at survey id) (view_of was id)
    shown = record {
      stands = λ vol f is. found_stands vol f (exact_on vol (found_within vol f is)) is;
      stood = λ vol f looked there. stands_found vol f (exact_on vol (was_within vol f there)) looked there;
      settled = not_drafted;
      few = λ vol. table.few id vol;
    }

    -- the length of the block file is its size
    pub size_here : (told : Option (List World)) → IsWorldOf told was → (vol len : ℕ) → has_block (found_at survey id vol) ≡ true → IsSizeOf told vol (block_path id) len →
        len ≡ len_on (view_of was id) vol
    size_here told is vol len there size =
        let standing : IsTrue (is_standing (view_of was id vol Block)) = shown.stands vol Block there in
        let none = aside_no_draft id vol Block was refl surveyed.aside in
        elim (size was is (λ absent. false≢true (sym (ap is_standing (view_absent was id vol Block refl absent)) ∙ standing))) [
          | inl sized ↦
              let slot : view_of was id vol Block ≡ holds sized.0 =
              view_slot was id vol Block refl
              ∙ ap (λ d. slot_of d (was.settled vol (block_path id))) (no_number was vol (block_path id) none)
              ∙ ap (slot_of None) sized.1 in
              sym sized.2 ∙ sym (ap (λ s. length (slot_bytes s)) slot)
          | inr drafts ↦ absurd (false≢true (sym none ∙ drafts))
        ]

    module _ (kept : ℕ → Option ℕ) (whole : KeepsWhole kept survey) (now : World) (clears : Clears (plan_of kept survey) was now) where
      slots : (vol : ℕ) (f : BlockFile) (b : Bool) → is_file f ≡ b →
          (view_of now id vol f ≡ view_of was id vol f) ⊎ ((view_of now id vol f ≡ empty) × (goes (kept id) (found_at survey id vol) vol f ≡ true))
      slots vol f true is = elim (clears.each vol (path_of id f)) [
        | inl same ↦ inl (view_slot now id vol f is ∙ same ∙ sym (view_slot was id vol f is))
        | inr gone ↦ inr (view_slot now id vol f is ∙ gone.0, plan_goes kept whole vol id f valid is gone.1)
      ]
      slots vol f false isnt = inl (no_file now id vol f isnt ∙ sym (no_file was id vol f isnt))

      pub partly : Partly (kept id) (found_at survey id) (view_of was id) (view_of now id)
      partly = record {
        alike = λ vol f. elim (slots vol f (is_file f) refl) [ inl same ↦ inl same | inr gone ↦ inr gone.0 ];
        stays = λ vol f stay. elim (slots vol f (is_file f) refl) [ inl same ↦ same | inr gone ↦ absurd (false≢true (sym stay ∙ gone.1)) ];
      }

      module _ (clear : AreClear (plan_of kept survey) now) where
        now_file : (vol : ℕ) (f : BlockFile) → IsTrue (is_standing (view_of now id vol f)) → IsTrue (is_file f)
        now_file vol f there = elim (cases_Bool (is_file f)) [ inl is ↦ is | inr isnt ↦ absurd (not_standing (view_of now id vol f) (no_file now id vol f isnt) there) ]

        -- what stands isn't cleared
        not_cleared : (vol : ℕ) (f : BlockFile) → IsTrue (is_standing (view_of now id vol f)) → Contains (plan_of kept survey) (vol, path_of id f) → ⊥
        not_cleared vol f there has = not_standing (view_of now id vol f) (view_slot now id vol f (now_file vol f there) ∙ clear vol (path_of id f) has) there

        stood_before : (vol : ℕ) (f : BlockFile) → IsTrue (is_standing (view_of now id vol f)) → IsTrue (is_standing (view_of was id vol f))
        stood_before vol f there = was_standing (kept id) (found_at survey id) (view_of was id) (view_of now id) shown partly vol f there

        -- a file of a move
        no_temporary : (vol : ℕ) (f : BlockFile) → dir_of id f ≡ codes "tmp" → IsTrue (is_standing (view_of now id vol f)) → ⊥
        no_temporary vol f dir there =
            let stood = stood_before vol f there in
            let on = was_within vol f stood in
            let names = get_or survey.temporary.items (vol - 1) [] in
            let listing : IsListing was vol (dir_of id f) names = subst (λ (d : List ℕ). IsListing was vol d names) (sym dir) (surveyed.exact.temporary vol on.0 on.1) in
            let named = file_listed was id vol f names valid (now_file vol f there) listing stood in
            let path : path_in (codes "tmp") (name_of id f) ≡ path_of id f = ap (λ (d : List ℕ). path_in d (name_of id f)) (sym dir) ∙ path_in_own_dir id f in
            let high : vol ≤ length survey.temporary.items = subst (λ n. vol ≤ n) (sym surveyed.exact.counted) on.1 in
            not_cleared vol f there (subst (λ (p : List ℕ). Contains (plan_of kept survey) (vol, p)) path
            (clears_temporary kept survey.blocks.entries survey.temporary.items vol (name_of id f) on.0 high named))

        stays_looked : (vol : ℕ) (f : BlockFile) → is_looked_for f ≡ true → IsTrue (is_standing (view_of now id vol f)) → goes (kept id) (found_at survey id vol) vol f ≡ false
        stays_looked vol f looked there = elim (cases_Bool (goes (kept id) (found_at survey id vol) vol f)) [
          | inl it ↦ absurd (not_cleared vol f there (plan_has kept whole id vol f (shown.stood vol f looked (stood_before vol f there)) it))
          | inr stays ↦ stays
        ]

        -- WHAT STANDS WHEN ALL WAS CLEARED DOESN'T GO
        pub left : (vol : ℕ) (f : BlockFile) → IsTrue (is_standing (view_of now id vol f)) → goes (kept id) (found_at survey id vol) vol f ≡ false
        left vol Block there = stays_looked vol Block refl there
        left vol (Meta stamp) there = stays_looked vol (Meta stamp) refl there
        left vol WritingBlock there = stays_looked vol WritingBlock refl there
        left vol (WritingMeta stamp) there = stays_looked vol (WritingMeta stamp) refl there
        left vol TemporaryBlock there = absurd (no_temporary vol TemporaryBlock refl there)
        left vol (TemporaryMeta stamp) there = absurd (no_temporary vol (TemporaryMeta stamp) refl there)
