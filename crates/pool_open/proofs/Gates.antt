-- Of a block from which the first of the metas that don't count were cleared the same is read.
use Rattle.std.proofs.Common.{◌≡◌, ◌⊎◌, ◌<◌, inl, inr, ℕ, Bool, true, List, Option, Some, None, Contains, take, refl, ap, sym, ◌∙◌, subst, IsTrue, arith}
use Rattle.std.specs.Prelude.{IsSome, is_some}
use Rattle.std.specs.Ordering.{nat_cmp}
use Rattle.std.specs.BTreeMap.{get}
use Rattle.std.specs.declared.vec.Vec.{Vec}
use Rattle.std.specs.declared.alloc.Global.{Global}
use Rattle.std.proofs.lemmas.Bool.{false≢true, cases_Bool}
use Rattle.std.proofs.lemmas.List.Elements.{All-contains}
use Rattle.disk_model.specs.Files.{Files}
use Rattle.disk_model.specs.Worlds.{World}
use Rattle.disk_model.specs.Told.{Leaves}
use Rattle.volume_layout.specs.Paths.{IsBlockId}
use Rattle.volume_layout.specs.Choice.{GateKeeps}
use Rattle.volume_layout.specs.declared.block_file.BlockFile.{BlockFile}
use Rattle.volume_layout.specs.declared.block_file.BlockFile.TheVariants.{Block, Meta, WritingBlock, WritingMeta, TemporaryBlock, TemporaryMeta}
use Rattle.volume_layout.specs.BlockFiles.{path_of, is_file}
use Rattle.map_model.specs.World.{DraftsAside}
use Rattle.map_model.specs.Cells.{Replica}
use Rattle.map_model.specs.Copies.{Spot, own_spot, BlockFiles, HasMeta, KeepsStamp, IsCopy}
use Rattle.map_model.specs.Openings.{shown_files}
use Rattle.map_model.specs.Sound.{matching, Fits}
use Rattle.map_model.specs.Slots.{Slot, empty, is_standing, bytes_in, slot_at, view_of, files_in}
use Rattle.map_model.proofs.SlotLemmas.{bytes-standing}
use Rattle.map_model.proofs.Aside.{aside_not_drafted}
use Rattle.map_model.proofs.Bridge.{view_slot}
use Rattle.pool_state.specs.Stands.{IsVolume}
use Rattle.pool_survey.specs.declared.found.FoundFiles.{FoundFiles}
use Rattle.pool_survey.specs.declared.places.FoundOn.{FoundOn}
use Rattle.pool_survey.specs.declared.surveying_pool.PoolSurvey.{PoolSurvey}
use Rattle.pool_survey.specs.Found.{has_block, metas_of}
use Rattle.pool_survey.specs.Exact.{IsExact}
use Rattle.pool_survey.specs.Places.{found_on, places_of, ArePoolBlocks, IsPoolSurveyOf}
use Rattle.pool_open.specs.Plan.{Place}
use Rattle.pool_open.specs.Surplus.{counted, surplus_stamps}
use Rattle.pool_open.specs.Clearing.{cleared}
use Rattle.pool_open.specs.Outcome.{ReadsBack}
use Rattle.pool_open.proofs.Placed.{none_in, on_there, found_there}
use Rattle.pool_open.proofs.Blocks.{held_slot, slot_bytes}
use Rattle.pool_open.proofs.Counted.{kept_keeps, kept_some, gate_same, gate_counts, surplus_from}
use Rattle.pool_open.proofs.Ordered.{clears_cleared, are_cleared, taken_in}
use Rattle.pool_open.proofs.Precedes.{Precedes}
use Rattle.pool_open.proofs.Fronts.{surplus, surplus_found, one_place, IsListedMeta, listed_meta, smaller_first}
use Rattle.pool_open.proofs.Thinned.{IsThinned, reads_on, sound_on, alone_on}
use Rattle.pool_open.proofs.Shown.{shown_view, world_reads_back}
use Rattle.pool_open.proofs.Slots.{replica_of}
use Rattle.pool_open.proofs.Opened.{no_file}

-- which file is a finalised meta
abbrev pub IsNoMeta : BlockFile → Type 0
IsNoMeta f = (stamp : ℕ) → f ≡ Meta stamp → ⊥

-- what counts has a block file
counted_block : (files : FoundFiles) (stamp : ℕ) → Contains (surplus_stamps (counted files) files.metas.items) stamp → files.block ≡ true
counted_block files stamp has = elim (cases_Bool files.block) [
  | inl there ↦ there
  | inr none ↦
      let nothing : counted files ≡ None = rw none refl in
      absurd (none_in stamp (subst (λ (o : Option ℕ). Contains (surplus_stamps o files.metas.items) stamp) nothing has))
]

module _ (volumes : ℕ) (survey : PoolSurvey) (blocks : ArePoolBlocks volumes survey.blocks)
    (listed : (id : ℕ) (found : Vec FoundOn Global) → Contains survey.blocks.entries (id, found) → get nat_cmp survey.blocks id ≡ Some found)
    (was : World) (surveyed : IsPoolSurveyOf was volumes survey) (aside : DraftsAside was)
    (within : (vol : ℕ) (path : List ℕ) → IsTrue (is_standing (slot_at was vol path)) → IsVolume volumes vol) where
  abbrev pub all : List Place
  all = surplus volumes survey blocks listed

  module _ (id : ℕ) (valid : IsBlockId id) where
    abbrev pub V : ℕ → BlockFile → Slot
    V = view_of was id

    -- ---- what was found where a block file stands

    pub file_here : (vol : ℕ) (f : BlockFile) → IsTrue (is_standing (V vol f)) → IsTrue (is_file f)
    file_here vol f there = elim (cases_Bool (is_file f)) [
      | inl is ↦ is
      | inr isnt ↦ absurd (false≢true (sym (ap is_standing (no_file was id vol f isnt)) ∙ there))
    ]

    exact_here : (vol : ℕ) (f : BlockFile) → IsTrue (is_standing (V vol f)) → IsExact was vol id (found_on (places_of survey.blocks id) vol)
    exact_here vol f there =
        let on = within vol (path_of id f) (sym (ap is_standing (view_slot was id vol f (file_here vol f there))) ∙ there) in
        surveyed.blocks id valid vol on.0 on.1

    record IsFoundBlock (vol : ℕ) : Type 0 where
      on : FoundOn
      has : Contains (places_of survey.blocks id) on
      here : on.vol ≡ vol
      block : on.files.block ≡ true
      exact : IsExact was vol id (Some on.files)

    found_block : (vol : ℕ) → IsTrue (is_standing (V vol Block)) → IsFoundBlock vol
    found_block vol there = by (found_on (places_of survey.blocks id) vol) refl
      where
        exact : IsExact was vol id (found_on (places_of survey.blocks id) vol)
        exact = exact_here vol Block there

        by : (o : Option FoundFiles) → found_on (places_of survey.blocks id) vol ≡ o → IsFoundBlock vol
        by None none = absurd (false≢true (sym (ap has_block none) ∙ exact.block ∙ there))
        by (Some files) is =
            let on = on_there (places_of survey.blocks id) vol files is in
            let same : found_on (places_of survey.blocks id) vol ≡ Some on.0.files = is ∙ ap Some (sym on.3) in
            record {
              on = on.0;
              has = on.1;
              here = on.2;
              block = sym (ap has_block same) ∙ exact.block ∙ there;
              exact = subst (λ (o : Option FoundFiles). IsExact was vol id o) same exact;
            }

    pub meta_standing : (vol stamp : ℕ) → IsTrue (is_standing (V vol (Meta stamp))) → IsSome (bytes_in (V vol (Meta stamp)))
    meta_standing vol stamp there =
        let is : IsTrue (is_file (Meta stamp)) = file_here vol (Meta stamp) there in
        subst (λ (s : Slot). IsSome (bytes_in s)) (sym (held_slot (V vol (Meta stamp)) there (λ number drafts. aside_not_drafted id vol (Meta stamp) was number is refl aside drafts))) refl

    abbrev F : BlockFiles
    F = files_in V

    block_standing : (spot : Spot) → IsSome (F.block spot) → IsTrue (is_standing (V spot.vol Block))
    block_standing spot some = bytes-standing (V spot.vol Block) some

    module _ (spot : Spot) (found : IsFoundBlock spot.vol) where
      abbrev metas : List ℕ
      metas = found.on.files.metas.items

      meta_there : (stamp : ℕ) → HasMeta F spot stamp → Contains metas stamp
      meta_there stamp has = (found.exact.metas stamp).1 (bytes-standing (V spot.vol (Meta stamp)) has)

      meta_back : (stamp : ℕ) → Contains metas stamp → HasMeta F spot stamp
      meta_back stamp has = meta_standing spot.vol stamp ((found.exact.metas stamp).0 has)

      -- the stamp that the gate keeps of the files is the one that is counted
      keeps_counted : (stamp : ℕ) → KeepsStamp F spot stamp → counted found.on.files ≡ Some stamp
      keeps_counted stamp keeps =
          rw found.block
          (gate_counts found.on.files.writing metas stamp
          (subst (λ (b : Bool). GateKeeps (Contains metas) b stamp) (sym found.exact.writing)
          (gate_same (HasMeta F spot) (Contains metas) (is_standing (V spot.vol WritingBlock)) stamp meta_there meta_back keeps)))

      keeps_some : (stamp : ℕ) → HasMeta F spot stamp → (kept : ℕ) × KeepsStamp F spot kept
      keeps_some stamp has =
          let kept = kept_some found.on.files.writing metas stamp (meta_there stamp has) in (
            kept.0,
            subst (λ (b : Bool). GateKeeps (HasMeta F spot) b kept.0) found.exact.writing
                (gate_same (Contains metas) (HasMeta F spot) found.on.files.writing kept.0 meta_back meta_there (kept_keeps found.on.files.writing metas kept.0 kept.1)),
          )

    -- ---- while they are cleared

    module _ (now : World) (count : ℕ) (is : now ≡ cleared (take count all) was) where
      abbrev pub N : ℕ → BlockFile → Slot
      N = view_of now id

      pub slots : (vol : ℕ) (f : BlockFile) → (N vol f ≡ V vol f) ⊎ ((N vol f ≡ empty) × Contains (take count all) (vol, path_of id f) × IsTrue (is_file f))
      slots vol f = elim (cases_Bool (is_file f)) [
        | inl file ↦
            let clears = clears_cleared (take count all) was in
            let here : N vol f ≡ slot_at (cleared (take count all) was) vol (path_of id f) = view_slot now id vol f file ∙ ap (λ (w : World). slot_at w vol (path_of id f)) is in
            elim (clears.each vol (path_of id f)) [
              | inl same ↦ inl (here ∙ same ∙ sym (view_slot was id vol f file))
              | inr gone ↦ inr (here ∙ gone.0, gone.1, file)
            ]
        | inr isnt ↦ inl (no_file now id vol f isnt ∙ sym (no_file was id vol f isnt))
      ]

      pub gone : (vol : ℕ) (f : BlockFile) → IsTrue (is_file f) → Contains (take count all) (vol, path_of id f) → N vol f ≡ empty
      gone vol f file has = view_slot now id vol f file ∙ ap (λ (w : World). slot_at w vol (path_of id f)) is ∙ are_cleared (take count all) was vol (path_of id f) has

      pub listed_in : (vol : ℕ) (f : BlockFile) → IsTrue (is_file f) → Contains (take count all) (vol, path_of id f) → IsListedMeta volumes survey blocks listed id vol f
      listed_in vol f file has = listed_meta volumes survey blocks listed id vol f valid file (taken_in all count (vol, path_of id f) has)

      -- all but finalised metas stay
      pub others_stay : (vol : ℕ) (f : BlockFile) → IsNoMeta f → N vol f ≡ V vol f
      others_stay vol f none = elim (slots vol f) [ inl same ↦ same | inr went ↦ let it = listed_in vol f went.2 went.1 in absurd (none it.stamp it.file) ]

      pub no_block : IsNoMeta Block
      no_block stamp same = (let bad : Block ≡ Meta stamp = same in absurd cc)

      pub no_writing : IsNoMeta WritingBlock
      no_writing stamp same = (let bad : WritingBlock ≡ Meta stamp = same in absurd cc)

      meta_less : (spot : Spot) (stamp : ℕ) → HasMeta (files_in N) spot stamp → HasMeta F spot stamp
      meta_less spot stamp has = elim (slots spot.vol (Meta stamp)) [
        | inl same ↦ subst (λ (s : Slot). IsSome (bytes_in s)) same has
        | inr went ↦ absurd (false≢true (ap (λ (s : Slot). is_some (bytes_in s)) (sym went.0) ∙ has))
      ]

      stamp_same : (one other : ℕ) → Meta one ≡ Meta other → one ≡ other
      stamp_same one other same = ap stamp_of same
        where
          stamp_of : BlockFile → ℕ
          stamp_of Block = 0
          stamp_of (Meta stamp) = stamp
          stamp_of WritingBlock = 0
          stamp_of (WritingMeta stamp) = stamp
          stamp_of TemporaryBlock = 0
          stamp_of (TemporaryMeta stamp) = stamp

      -- what goes of a block's files beside the file that was found
      surplus_here : (spot : Spot) (found : IsFoundBlock spot.vol) (stamp kept : ℕ) → counted found.on.files ≡ Some kept → Contains (take count all) (spot.vol, path_of id (Meta stamp)) →
          IsTrue (is_file (Meta stamp)) → (stamp < kept) ⊎ (kept < stamp)
      surplus_here spot found stamp kept counts has file =
          let it = listed_in spot.vol (Meta stamp) file has in
          let same : it.on ≡ found.on = one_on spot.vol it.on found.on it.has found.has it.here found.here in
          let among : Contains (surplus_stamps (counted found.on.files) found.on.files.metas.items) it.stamp =
          subst (λ (on : FoundOn). Contains (surplus_stamps (counted on.files) on.files.metas.items) it.stamp) same it.among in
          let stamps : it.stamp ≡ stamp = sym (stamp_same stamp it.stamp it.file) in
          subst (λ n. (n < kept) ⊎ (kept < n)) stamps
          (surplus_from kept found.on.files.metas.items it.stamp (subst (λ (o : Option ℕ). Contains (surplus_stamps o found.on.files.metas.items) it.stamp) counts among)).1
        where
          one_on : (vol : ℕ) (one other : FoundOn) → Contains (places_of survey.blocks id) one → Contains (places_of survey.blocks id) other → one.vol ≡ vol → other.vol ≡ vol → one ≡ other
          one_on vol one other has_one has_other here there = one_place volumes survey blocks listed id other one has_other has_one (here ∙ sym there)

      pub thinned : IsThinned F (files_in N)
      thinned = record {
        block = λ spot. ap bytes_in (others_stay spot.vol Block no_block);
        writing = λ vol. ap is_standing (others_stay vol WritingBlock no_writing);
        less = meta_less;
        kept = λ spot stamp block keeps.
            let found = found_block spot.vol (block_standing spot block) in
            let counts = keeps_counted spot found stamp keeps in
            elim (slots spot.vol (Meta stamp)) [
              | inl same ↦ ap bytes_in same
              | inr went ↦ elim (surplus_here spot found stamp stamp counts went.1 went.2) [ inl low ↦ absurd (omega (arith, low)) | inr high ↦ absurd (omega (arith, high)) ]
            ];
        ordered = λ spot stamp top block keeps higher has.
            let found = found_block spot.vol (block_standing spot block) in
            let counts = keeps_counted spot found stamp keeps in
            elim (slots spot.vol (Meta top)) [
              | inl same ↦ inl (subst (λ (s : Slot). IsSome (bytes_in s)) (sym same) has)
              | inr went ↦ inr (λ other low standing.
                  let before = meta_less spot other standing in
                  let first : Precedes all (found.on.vol, path_of id (Meta other)) (found.on.vol, path_of id (Meta top)) =
                  smaller_first volumes survey blocks listed id valid found.on found.has stamp other top counts (meta_there spot found other before) (meta_there spot found top has) low higher in
                  let in_front = first count (subst (λ v. Contains (take count all) (v, path_of id (Meta top))) (sym found.here) went.1) in
                  let cleared_too = gone spot.vol (Meta other) (file_here spot.vol (Meta other) (bytes-standing (V spot.vol (Meta other)) before))
                  (subst (λ v. Contains (take count all) (v, path_of id (Meta other))) found.here in_front) in
                  false≢true (ap (λ (s : Slot). is_some (bytes_in s)) (sym cleared_too) ∙ standing))
            ];
        some = λ spot stamp block has. keeps_some spot (found_block spot.vol (block_standing spot block)) stamp has;
      }

      -- where no copy stood nothing goes
      pub no_copy_stays : ((spot : Spot) (replica : Replica) → IsCopy F spot replica → ⊥) → (vol : ℕ) (f : BlockFile) → N vol f ≡ V vol f
      no_copy_stays none vol f = elim (slots vol f) [
        | inl same ↦ same
        | inr went ↦
            let it = listed_in vol f went.2 went.1 in
            let on : FoundOn = it.on in
            let place : found_on (places_of survey.blocks id) on.vol ≡ Some on.files = found_there (places_of survey.blocks id) (blocks.places id).rise on it.has in
            let there = All-contains (λ (o : FoundOn). IsVolume volumes o.vol) (places_of survey.blocks id) on (blocks.places id).on_volumes it.has in
            let exact = surveyed.blocks id valid on.vol there.0 there.1 in
            let standing : IsTrue (is_standing (V on.vol Block)) = sym exact.block ∙ ap has_block place ∙ counted_block on.files it.stamp it.among in
            let found = found_block on.vol standing in
            let has = meta_standing on.vol it.stamp
            ((exact.metas it.stamp).0 (subst (λ (o : Option FoundFiles). Contains (metas_of o) it.stamp) (sym place) (surplus_found (counted on.files) on.files.metas.items it.stamp it.among))) in
            let keeps = keeps_some (own_spot on.vol) found it.stamp has in
            absurd (none (own_spot on.vol) (replica_of keeps.0 (slot_bytes (V on.vol Block))) (record {
              block = ap bytes_in (held_slot (V on.vol Block) standing (λ number drafts. aside_not_drafted id on.vol Block was number refl refl aside drafts));
              stamp = keeps.1;
            }))
      ]

      pub aside_now : DraftsAside now
      aside_now = subst (λ (w : World). DraftsAside w) (sym is) ((clears_cleared (take count all) was).aside aside)

      pub shown_thinned : IsThinned (shown_files was id) (shown_files now id)
      shown_thinned = subst (λ (files : BlockFiles). IsThinned (shown_files was id) files) (sym (shown_view now id aside_now))
          (subst (λ (files : BlockFiles). IsThinned files (files_in N)) (sym (shown_view was id aside)) thinned)

  -- WHAT READS AS THE WORLD IN WHICH THEY WERE CLEARED READS AS THE WORLD BEFORE
  pub reads_before : (now : World) (count : ℕ) → now ≡ cleared (take count all) was → (image : Files) → ReadsBack now image → ReadsBack was image
  reads_before now count is image back = record {
    alike = λ id valid replica reads. back.alike id valid replica (reads_on (shown_files was id) (shown_files now id) (shown_thinned id valid now count is) replica reads);
    sound = λ matched. back.sound (λ id valid. sound_on (shown_files was id) (shown_files now id) (shown_thinned id valid now count is) (Fits matching id) (matched id valid));
    whole = λ own. back.whole (λ id valid. alone_on (shown_files was id) (shown_files now id) (shown_thinned id valid now count is) (own id valid));
  }

  pub front_reads_back : (now : World) (count : ℕ) → now ≡ cleared (take count all) was → (image : Files) → Leaves now image → ReadsBack was image
  front_reads_back now count is image leaves = reads_before now count is image (world_reads_back now image (aside_cleared now count is) leaves)
    where
      aside_cleared : (now : World) (count : ℕ) → now ≡ cleared (take count all) was → DraftsAside now
      aside_cleared now count is = subst (λ (w : World). DraftsAside w) (sym is) ((clears_cleared (take count all) was).aside aside)
