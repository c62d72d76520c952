-- Which files of a block go, and that the plan is exactly those.
use Rattle.std.proofs.Common.{◌≡◌, ◌⊎◌, ◌≤◌, ◌+◌, ◌-◌, inl, inr, ℕ, zero, suc, Bool, true, false, not, List, [], ◌∷◌, ◌++◌, Option, Some, None, All, Contains, length, get_or, refl, ap, sym, ◌∙◌, subst, IsTrue, arith}
use Rattle.std.specs.Prelude.{◌<◌, ◌==◌, codes, if◌then◌else◌}
use Rattle.std.specs.List.{flat_map}
use Rattle.std.specs.declared.vec.Vec.{Vec}
use Rattle.std.specs.declared.alloc.Global.{Global}
use Rattle.std.proofs.lemmas.Bool.{false≢true, cases_Bool}
use Rattle.std.proofs.lemmas.Bool.Decides.{eqb_tells}
use Rattle.std.proofs.lemmas.List.Elements.{All-nil, All-append, All-cons, All-contains, Contains-append_left, Contains-append_right}
use Rattle.disk_model.specs.Files.{path_in}
use Rattle.disk_model.proofs.Laws.{has_one}
use Rattle.volume_layout.specs.Paths.{IsBlockId, IsStamp, dir_path, own_dir, block_path, meta_path, rbw_block, rbw_meta}
use Rattle.volume_layout.proofs.Reading.{is_stamp-IsStamp, path_id}
use Rattle.volume_layout.specs.declared.block_file.BlockFile.{BlockFile}
use Rattle.volume_layout.specs.declared.block_file.BlockFile.TheVariants.{Block, Meta, WritingBlock, WritingMeta, TemporaryBlock, TemporaryMeta}
use Rattle.volume_layout.specs.BlockFiles.{path_of, is_file}
use Rattle.map_model.proofs.Bridge.{path_id-file, path_of-injective}
use Rattle.pool_survey.specs.declared.found.FoundFiles.{FoundFiles}
use Rattle.pool_survey.specs.declared.places.FoundOn.{FoundOn}
use Rattle.pool_survey.specs.Found.{has_block, metas_of, has_writing, writing_metas_of}
use Rattle.pool_survey.specs.Places.{found_on}
use Rattle.pool_open.specs.declared.paths.Piece.{Piece}
use Rattle.pool_open.specs.declared.paths.Piece.TheVariants.{Lesser, Superseded, Orphans}
use Rattle.pool_open.specs.Plan.{Place, first_stamp, copy_stamp, block_on, metas_on, writing_on, writing_metas_on, whole_copy, lesser_on, bare_block, superseded_on, lone_writing_on, orphans_on, piece_on, pieces_of, names_on, temporary_from, cleared_places}
use Rattle.pool_open.proofs.Lists.{flat_all, flat_contains, map_all, map_contains}
use Rattle.pool_open.proofs.Placed.{none_in, on_there}

-- the file of a block was found on a volume
abbrev pub IsFound : Option FoundFiles → BlockFile → Type 0
IsFound found Block = has_block found ≡ true
IsFound found (Meta stamp) = Contains (metas_of found) stamp
IsFound found WritingBlock = has_writing found ≡ true
IsFound found (WritingMeta stamp) = Contains (writing_metas_of found) stamp
IsFound found TemporaryBlock = ⊥
IsFound found (TemporaryMeta stamp) = ⊥

-- of what a file was found, something was
pub found_some : (o : Option FoundFiles) (file : BlockFile) → IsFound o file → (files : FoundFiles) × (o ≡ Some files)
found_some (Some files) file is = (files, refl)
found_some None Block is = absurd (false≢true is)
found_some None (Meta stamp) is = absurd (none_in stamp is)
found_some None WritingBlock is = absurd (false≢true is)
found_some None (WritingMeta stamp) is = absurd (none_in stamp is)
found_some None TemporaryBlock is = absurd is
found_some None (TemporaryMeta stamp) is = absurd is

-- The file of a block goes, where its replica is kept on this volume, or none is: finalised files on other volumes and all
-- that was being written; else the metas without a block file. So does every file of a move.
abbrev pub goes : (kept : Option ℕ) → Option FoundFiles → (vol : ℕ) → BlockFile → Bool
goes (Some own) found vol Block = not (vol == own)
goes (Some own) found vol (Meta stamp) = not (vol == own)
goes (Some own) found vol WritingBlock = true
goes (Some own) found vol (WritingMeta stamp) = true
goes None found vol Block = false
goes None found vol (Meta stamp) = not (has_block found)
goes None found vol WritingBlock = false
goes None found vol (WritingMeta stamp) = not (has_writing found)
goes kept found vol TemporaryBlock = true
goes kept found vol (TemporaryMeta stamp) = true

-- a file of a move
abbrev pub IsMoves : BlockFile → Type 0
IsMoves TemporaryBlock = Unit {0}
IsMoves (TemporaryMeta stamp) = Unit {0}
IsMoves file = ⊥

moves_go : (kept : Option ℕ) (found : Option FoundFiles) (vol : ℕ) (file : BlockFile) → IsMoves file → goes kept found vol file ≡ true
moves_go None found vol TemporaryBlock is = refl
moves_go (Some own) found vol TemporaryBlock is = refl
moves_go None found vol (TemporaryMeta stamp) is = refl
moves_go (Some own) found vol (TemporaryMeta stamp) is = refl
moves_go kept found vol Block is = absurd is
moves_go kept found vol (Meta stamp) is = absurd is
moves_go kept found vol WritingBlock is = absurd is
moves_go kept found vol (WritingMeta stamp) is = absurd is

-- ---- names in `tmp`

-- the first byte of a text
abbrev first_byte : List ℕ → ℕ
first_byte [] = 0
first_byte (byte ∷ bytes) = byte

first_of_tmp : (name : List ℕ) → first_byte (path_in (codes "tmp") name) ≡ 116
first_of_tmp name = refl

moves_or_first : (id : ℕ) (file : BlockFile) → IsMoves file ⊎ (first_byte (path_of id file) ≡ 99)
unfolding block_path meta_path rbw_block rbw_meta own_dir dir_path
moves_or_first id Block = inr refl
moves_or_first id (Meta stamp) = inr refl
moves_or_first id WritingBlock = inr refl
moves_or_first id (WritingMeta stamp) = inr refl
moves_or_first id TemporaryBlock = inl tt
moves_or_first id (TemporaryMeta stamp) = inl tt

-- a path in `tmp` is that of a file of a move
in_tmp : (id : ℕ) (file : BlockFile) (name : List ℕ) → path_of id file ≡ path_in (codes "tmp") name → IsMoves file
in_tmp id file name same = elim (moves_or_first id file) [
  | inl moves ↦ moves
  | inr first ↦ let bad : 99 ≡ 116 = sym first ∙ ap first_byte same ∙ first_of_tmp name in absurd (omega (arith, bad))
]

-- every name in `tmp` of a volume is cleared
names_from : (from : ℕ) (temporary : List (List (List ℕ))) (k : ℕ) (name : List ℕ) → k < length temporary → Contains (get_or temporary k []) name →
    Contains (temporary_from from temporary) (from + k, path_in (codes "tmp") name)
names_from from [] k name inside has = absurd (omega (arith, inside))
names_from from (names ∷ more) zero name inside has =
    let here : from ≡ from + 0 = omega arith in
    subst (λ v. Contains (names_on from names ++ temporary_from (from + 1) more) (v, path_in (codes "tmp") name)) here
    (Contains-append_left (names_on from names) (temporary_from (from + 1) more) (from, path_in (codes "tmp") name)
    (map_contains (λ (n : List ℕ). (from, path_in (codes "tmp") n)) names name has))
names_from from (names ∷ more) (suc k) name inside has =
    let next : (from + 1) + k ≡ from + suc k = omega arith in
    subst (λ v. Contains (names_on from names ++ temporary_from (from + 1) more) (v, path_in (codes "tmp") name)) next
    (Contains-append_right (names_on from names) (temporary_from (from + 1) more) ((from + 1) + k, path_in (codes "tmp") name)
    (names_from (from + 1) more k name (omega (arith, inside)) has))

-- ---- what the plan has

module _ (kept : ℕ → Option ℕ) (places : ℕ → List FoundOn) where
  -- a place is no place of a file of a block that stays
  abbrev Goes : Place → Type 0
  Goes place = (id : ℕ) (file : BlockFile) → IsBlockId id → IsTrue (is_file file) → path_of id file ≡ place.1 →
      goes (kept id) (found_on (places id) place.0) place.0 file ≡ true

  -- the place of a file that goes
  goes_at : (id vol : ℕ) (file : BlockFile) → IsBlockId id → IsTrue (is_file file) → goes (kept id) (found_on (places id) vol) vol file ≡ true →
      Goes (vol, path_of id file)
  goes_at id vol file valid is it other f other_valid is_f same =
      let ids : other ≡ id = sym (path_id-file other f other_valid is_f) ∙ ap path_id same ∙ path_id-file id file valid is in
      let files : f ≡ file = path_of-injective id f file valid is_f is (subst (λ n. path_of n f ≡ path_of id file) ids same) in
      subst (λ n. goes (kept n) (found_on (places n) vol) vol f ≡ true) (sym ids)
      (subst (λ g. goes (kept id) (found_on (places id) vol) vol g ≡ true) (sym files) it)

  names_go : (vol : ℕ) (temporary : List (List (List ℕ))) → All Goes (temporary_from vol temporary)
  names_go vol [] = All-nil Goes
  names_go vol (names ∷ more) = All-append Goes (names_on vol names) (temporary_from (vol + 1) more)
      (map_all Goes (λ (n : List ℕ). (vol, path_in (codes "tmp") n)) names (λ name has id file valid is same.
      moves_go (kept id) (found_on (places id) vol) vol file (in_tmp id file name same)))
      (names_go (vol + 1) more)

  -- the pieces of one block on one volume
  module _ (id : ℕ) (valid : IsBlockId id) (on : FoundOn) (is : found_on (places id) on.vol ≡ Some on.files)
      (metas_in_range : (stamp : ℕ) → Contains on.files.metas.items stamp → IsStamp stamp)
      (writing_in_range : (stamp : ℕ) → Contains on.files.writing_metas.items stamp → IsStamp stamp)
      (whole : (own : ℕ) → kept id ≡ Some own → on.vol ≡ own → copy_stamp on.files ≡ None → ⊥) where
    -- the files that go, where the replica is kept on this volume
    it : (k : Option ℕ) → kept id ≡ k → (file : BlockFile) → goes k (Some on.files) on.vol file ≡ true → IsTrue (is_file file) → Goes (on.vol, path_of id file)
    it k at file there valid_file = goes_at id on.vol file valid valid_file
        (subst (λ o. goes o (found_on (places id) on.vol) on.vol file ≡ true) (sym at)
        (subst (λ f. goes k f on.vol file ≡ true) (sym is) there))

    all_if : (b : Bool) (xs : List Place) → (b ≡ true → All Goes xs) → All Goes (if b then xs else [])
    all_if true xs all = all refl
    all_if false xs all = All-nil Goes

    all_unless : (b : Bool) (xs : List Place) → (b ≡ false → All Goes xs) → All Goes (if b then [] else xs)
    all_unless true xs all = All-nil Goes
    all_unless false xs all = all refl

    block_goes : (k : Option ℕ) → kept id ≡ k → goes k (Some on.files) on.vol Block ≡ true → All Goes (block_on id on)
    block_goes k at there = all_if on.files.block ((on.vol, block_path id) ∷ [])
        (λ some. All-cons Goes (on.vol, block_path id) [] (it k at Block there refl) (All-nil Goes))

    metas_go : (k : Option ℕ) → kept id ≡ k → ((stamp : ℕ) → goes k (Some on.files) on.vol (Meta stamp) ≡ true) → All Goes (metas_on id on)
    metas_go k at there = map_all Goes (λ (stamp : ℕ). (on.vol, meta_path id stamp)) on.files.metas.items
        (λ stamp has. it k at (Meta stamp) (there stamp) (is_stamp-IsStamp stamp (metas_in_range stamp has)))

    writing_goes : (k : Option ℕ) → kept id ≡ k → goes k (Some on.files) on.vol WritingBlock ≡ true → All Goes (writing_on id on)
    writing_goes k at there = all_if on.files.writing ((on.vol, rbw_block id) ∷ [])
        (λ some. All-cons Goes (on.vol, rbw_block id) [] (it k at WritingBlock there refl) (All-nil Goes))

    writing_metas_go : (k : Option ℕ) → kept id ≡ k → ((stamp : ℕ) → goes k (Some on.files) on.vol (WritingMeta stamp) ≡ true) → All Goes (writing_metas_on id on)
    writing_metas_go k at there = map_all Goes (λ (stamp : ℕ). (on.vol, rbw_meta id stamp)) on.files.writing_metas.items
        (λ stamp has. it k at (WritingMeta stamp) (there stamp) (is_stamp-IsStamp stamp (writing_in_range stamp has)))

    whole_by : (own : ℕ) → kept id ≡ Some own → not (on.vol == own) ≡ true → (stamp : Option ℕ) → All Goes (whole_copy stamp id on)
    whole_by own at away None = All-nil Goes
    whole_by own at away (Some stamp) = All-append Goes (block_on id on) (metas_on id on) (block_goes (Some own) at away) (metas_go (Some own) at (λ s. away))

    -- no copy is here
    away_by : (own : ℕ) → kept id ≡ Some own → copy_stamp on.files ≡ None → not (on.vol == own) ≡ true
    away_by own at none = elim (eqb_tells on.vol own) [ inl here ↦ absurd (whole own at here.1 none) | inr apart ↦ ap not apart.0 ]

    bare_by : (own : ℕ) → kept id ≡ Some own → (stamp : Option ℕ) → copy_stamp on.files ≡ stamp → All Goes (bare_block stamp id on)
    bare_by own at None none = block_goes (Some own) at (away_by own at none)
    bare_by own at (Some stamp) some = All-nil Goes

    lesser_go : (k : Option ℕ) → kept id ≡ k → All Goes (lesser_on k id on)
    lesser_go None at = All-nil Goes
    lesser_go (Some own) at = all_unless (on.vol == own) (whole_copy (copy_stamp on.files) id on) (λ away. whole_by own at (ap not away) (copy_stamp on.files))

    superseded_go : (k : Option ℕ) → kept id ≡ k → All Goes (superseded_on k id on)
    superseded_go None at = All-nil Goes
    superseded_go (Some own) at = All-append Goes (writing_on id on) (writing_metas_on id on ++ bare_block (copy_stamp on.files) id on)
        (writing_goes (Some own) at refl)
        (All-append Goes (writing_metas_on id on) (bare_block (copy_stamp on.files) id on) (writing_metas_go (Some own) at (λ stamp. refl)) (bare_by own at (copy_stamp on.files) refl))

    no_copy : on.files.block ≡ false → copy_stamp on.files ≡ None
    no_copy none = rw none refl

    lone_metas : (k : Option ℕ) → kept id ≡ k → on.files.block ≡ false → (stamp : ℕ) → goes k (Some on.files) on.vol (Meta stamp) ≡ true
    lone_metas None at none stamp = ap not none
    lone_metas (Some own) at none stamp = away_by own at (no_copy none)

    lone_writing : (k : Option ℕ) → kept id ≡ k → All Goes (lone_writing_on k id on)
    lone_writing None at = all_unless on.files.writing (writing_metas_on id on) (λ none. writing_metas_go None at (λ stamp. ap not none))
    lone_writing (Some own) at = All-nil Goes

    orphans_go : (k : Option ℕ) → kept id ≡ k → All Goes (orphans_on k id on)
    orphans_go k at = All-append Goes (if on.files.block then [] else metas_on id on) (lone_writing_on k id on)
        (all_unless on.files.block (metas_on id on) (λ none. metas_go k at (lone_metas k at none)))
        (lone_writing k at)

    piece_goes : (piece : Piece) → All Goes (piece_on piece (kept id) id on)
    piece_goes Lesser = lesser_go (kept id) refl
    piece_goes Superseded = superseded_go (kept id) refl
    piece_goes Orphans = orphans_go (kept id) refl

  -- what is known of the entries of the table
  pub record IsListedTable (blocks : List (ℕ × Vec FoundOn Global)) : Type 0 where
    pub valid : (id : ℕ) (found : Vec FoundOn Global) → Contains blocks (id, found) → IsBlockId id
    pub found : (id : ℕ) (found : Vec FoundOn Global) → Contains blocks (id, found) → (on : FoundOn) → Contains found.items on →
        found_on (places id) on.vol ≡ Some on.files
    pub metas : (id : ℕ) (found : Vec FoundOn Global) → Contains blocks (id, found) → (on : FoundOn) → Contains found.items on →
        (stamp : ℕ) → Contains on.files.metas.items stamp → IsStamp stamp
    pub writing_metas : (id : ℕ) (found : Vec FoundOn Global) → Contains blocks (id, found) → (on : FoundOn) → Contains found.items on →
        (stamp : ℕ) → Contains on.files.writing_metas.items stamp → IsStamp stamp
    pub whole : (id : ℕ) (found : Vec FoundOn Global) → Contains blocks (id, found) → (on : FoundOn) → Contains found.items on →
        (own : ℕ) → kept id ≡ Some own → on.vol ≡ own → copy_stamp on.files ≡ None → ⊥

  module _ (blocks : List (ℕ × Vec FoundOn Global)) (temporary : List (List (List ℕ))) (table : IsListedTable blocks) where
    pieces_go : (piece : Piece) → All Goes (flat_map (pieces_of piece kept) blocks)
    pieces_go piece = flat_all Goes (pieces_of piece kept) blocks (λ entry has.
        flat_all Goes (piece_on piece (kept entry.0) entry.0) entry.1.items (λ on there.
        piece_goes entry.0 (table.valid entry.0 entry.1 has) on (table.found entry.0 entry.1 has on there) (table.metas entry.0 entry.1 has on there)
        (table.writing_metas entry.0 entry.1 has on there) (table.whole entry.0 entry.1 has on there) piece))

    -- WHAT IS CLEARED GOES
    pub goes_only : (vol id : ℕ) (file : BlockFile) → IsBlockId id → IsTrue (is_file file) → Contains (cleared_places kept blocks temporary) (vol, path_of id file) →
        goes (kept id) (found_on (places id) vol) vol file ≡ true
    goes_only vol id file valid is has =
        let all : All Goes (cleared_places kept blocks temporary) = All-append Goes (temporary_from 1 temporary) _ (names_go 1 temporary)
        (All-append Goes (flat_map (pieces_of Lesser kept) blocks) _ (pieces_go Lesser)
        (All-append Goes (flat_map (pieces_of Superseded kept) blocks) (flat_map (pieces_of Orphans kept) blocks) (pieces_go Superseded) (pieces_go Orphans))) in
        All-contains Goes (cleared_places kept blocks temporary) (vol, path_of id file) all has id file valid is refl

-- ---- and what goes is in it

module _ (kept : ℕ → Option ℕ) (blocks : List (ℕ × Vec FoundOn Global)) (temporary : List (List (List ℕ))) where
  -- every name in `tmp` is cleared
  pub clears_temporary : (vol : ℕ) (name : List ℕ) → 1 ≤ vol → vol ≤ length temporary → Contains (get_or temporary (vol - 1) []) name →
      Contains (cleared_places kept blocks temporary) (vol, path_in (codes "tmp") name)
  clears_temporary vol name low high has =
      let at : 1 + (vol - 1) ≡ vol = omega (arith, low) in
      Contains-append_left (temporary_from 1 temporary) _ (vol, path_in (codes "tmp") name)
      (subst (λ v. Contains (temporary_from 1 temporary) (v, path_in (codes "tmp") name)) at
      (names_from 1 temporary (vol - 1) name (omega (arith, low, high)) has))

  module _ (id : ℕ) (found : Vec FoundOn Global) (listed : Contains blocks (id, found)) where
    in_piece : (piece : Piece) (on : FoundOn) (place : Place) → Contains found.items on → Contains (piece_on piece (kept id) id on) place →
        Contains (flat_map (pieces_of piece kept) blocks) place
    in_piece piece on place there has = flat_contains (pieces_of piece kept) blocks (id, found) place listed
        (flat_contains (piece_on piece (kept id) id) found.items on place there has)

    in_plan : (piece : Piece) (on : FoundOn) (place : Place) → Contains found.items on → Contains (piece_on piece (kept id) id on) place →
        Contains (cleared_places kept blocks temporary) place
    in_plan Lesser on place there has = Contains-append_right (temporary_from 1 temporary) _ place
        (Contains-append_left (flat_map (pieces_of Lesser kept) blocks) _ place (in_piece Lesser on place there has))
    in_plan Superseded on place there has = Contains-append_right (temporary_from 1 temporary) _ place
        (Contains-append_right (flat_map (pieces_of Lesser kept) blocks) _ place
        (Contains-append_left (flat_map (pieces_of Superseded kept) blocks) (flat_map (pieces_of Orphans kept) blocks) place (in_piece Superseded on place there has)))
    in_plan Orphans on place there has = Contains-append_right (temporary_from 1 temporary) _ place
        (Contains-append_right (flat_map (pieces_of Lesser kept) blocks) _ place
        (Contains-append_right (flat_map (pieces_of Superseded kept) blocks) (flat_map (pieces_of Orphans kept) blocks) place (in_piece Orphans on place there has)))

    module _ (on : FoundOn) (there : Contains found.items on) where
      has_if : (b : Bool) (place : Place) → b ≡ true → Contains (if b then place ∷ [] else []) place
      has_if true place is = has_one place
      has_if false place is = absurd (false≢true is)

      has_unless : (b : Bool) (xs : List Place) (place : Place) → b ≡ false → Contains xs place → Contains (if b then [] else xs) place
      has_unless true xs place is has = absurd (false≢true (sym is))
      has_unless false xs place is has = has

      has_block_on : on.files.block ≡ true → Contains (block_on id on) (on.vol, block_path id)
      has_block_on some = has_if on.files.block (on.vol, block_path id) some

      has_metas : (stamp : ℕ) → Contains on.files.metas.items stamp → Contains (metas_on id on) (on.vol, meta_path id stamp)
      has_metas stamp has = map_contains (λ (s : ℕ). (on.vol, meta_path id s)) on.files.metas.items stamp has

      has_writing_metas : (stamp : ℕ) → Contains on.files.writing_metas.items stamp → Contains (writing_metas_on id on) (on.vol, rbw_meta id stamp)
      has_writing_metas stamp has = map_contains (λ (s : ℕ). (on.vol, rbw_meta id s)) on.files.writing_metas.items stamp has

      away_from : (own : ℕ) → not (on.vol == own) ≡ true → (on.vol == own) ≡ false
      away_from own is = by (on.vol == own) is
        where
          by : (b : Bool) → not b ≡ true → b ≡ false
          by true is = absurd (false≢true is)
          by false is = refl

      -- a piece by the volume that is kept
      in_piece_by : (k : Option ℕ) → kept id ≡ k → (piece : Piece) (place : Place) → Contains (piece_on piece k id on) place → Contains (cleared_places kept blocks temporary) place
      in_piece_by k at piece place has = in_plan piece on place there (subst (λ o. Contains (piece_on piece o id on) place) (sym at) has)

      lesser_at : (own : ℕ) → kept id ≡ Some own → not (on.vol == own) ≡ true → (stamp : ℕ) → copy_stamp on.files ≡ Some stamp → (place : Place) →
          Contains (block_on id on ++ metas_on id on) place → Contains (cleared_places kept blocks temporary) place
      lesser_at own at away stamp is place has = in_piece_by (Some own) at Lesser place
          (has_unless (on.vol == own) (whole_copy (copy_stamp on.files) id on) place (away_from own away)
          (subst (λ (s : Option ℕ). Contains (whole_copy s id on) place) (sym is) has))

      lesser_block : (own : ℕ) → kept id ≡ Some own → not (on.vol == own) ≡ true → on.files.block ≡ true → (stamp : Option ℕ) → copy_stamp on.files ≡ stamp →
          Contains (cleared_places kept blocks temporary) (on.vol, block_path id)
      lesser_block own at away some (Some stamp) is = lesser_at own at away stamp is (on.vol, block_path id)
          (Contains-append_left (block_on id on) (metas_on id on) (on.vol, block_path id) (has_block_on some))
      lesser_block own at away some None is = in_piece_by (Some own) at Superseded (on.vol, block_path id)
          (Contains-append_right (writing_on id on) (writing_metas_on id on ++ bare_block (copy_stamp on.files) id on) (on.vol, block_path id)
          (Contains-append_right (writing_metas_on id on) (bare_block (copy_stamp on.files) id on) (on.vol, block_path id)
          (subst (λ (s : Option ℕ). Contains (bare_block s id on) (on.vol, block_path id)) (sym is) (has_block_on some))))

      some_copy : (metas : List ℕ) (stamp : ℕ) → Contains metas stamp → (first : ℕ) × (first_stamp metas ≡ Some first)
      some_copy [] stamp has = absurd (none_in stamp has)
      some_copy (first ∷ more) stamp has = (first, refl)

      orphan_meta : on.files.block ≡ false → (stamp : ℕ) → Contains on.files.metas.items stamp → Contains (cleared_places kept blocks temporary) (on.vol, meta_path id stamp)
      orphan_meta none stamp has = in_plan Orphans on (on.vol, meta_path id stamp) there
          (Contains-append_left (if on.files.block then [] else metas_on id on) (lone_writing_on (kept id) id on) (on.vol, meta_path id stamp)
          (has_unless on.files.block (metas_on id on) (on.vol, meta_path id stamp) none (has_metas stamp has)))

      lesser_meta : (own : ℕ) → kept id ≡ Some own → not (on.vol == own) ≡ true → (stamp : ℕ) → Contains on.files.metas.items stamp →
          Contains (cleared_places kept blocks temporary) (on.vol, meta_path id stamp)
      lesser_meta own at away stamp has = elim (cases_Bool on.files.block) [
        | inl some ↦
            let first = some_copy on.files.metas.items stamp has in
            lesser_at own at away first.0 (ap (λ b. if b then first_stamp on.files.metas.items else None) some ∙ first.1) (on.vol, meta_path id stamp)
            (Contains-append_right (block_on id on) (metas_on id on) (on.vol, meta_path id stamp) (has_metas stamp has))
        | inr none ↦ orphan_meta none stamp has
      ]

      not_true : (b : Bool) → not b ≡ true → b ≡ false
      not_true true is = absurd (false≢true is)
      not_true false is = refl

      clears_on : (k : Option ℕ) → kept id ≡ k → (file : BlockFile) → IsFound (Some on.files) file → goes k (Some on.files) on.vol file ≡ true →
          Contains (cleared_places kept blocks temporary) (on.vol, path_of id file)
      clears_on (Some own) at Block is it = lesser_block own at it is (copy_stamp on.files) refl
      clears_on (Some own) at (Meta stamp) is it = lesser_meta own at it stamp is
      clears_on (Some own) at WritingBlock is it = in_piece_by (Some own) at Superseded (on.vol, rbw_block id)
          (Contains-append_left (writing_on id on) (writing_metas_on id on ++ bare_block (copy_stamp on.files) id on) (on.vol, rbw_block id)
          (has_if on.files.writing (on.vol, rbw_block id) is))
      clears_on (Some own) at (WritingMeta stamp) is it = in_piece_by (Some own) at Superseded (on.vol, rbw_meta id stamp)
          (Contains-append_right (writing_on id on) (writing_metas_on id on ++ bare_block (copy_stamp on.files) id on) (on.vol, rbw_meta id stamp)
          (Contains-append_left (writing_metas_on id on) (bare_block (copy_stamp on.files) id on) (on.vol, rbw_meta id stamp) (has_writing_metas stamp is)))
      clears_on None at Block is it = absurd (false≢true it)
      clears_on None at (Meta stamp) is it = orphan_meta (not_true on.files.block it) stamp is
      clears_on None at WritingBlock is it = absurd (false≢true it)
      clears_on None at (WritingMeta stamp) is it = in_piece_by None at Orphans (on.vol, rbw_meta id stamp)
          (Contains-append_right (if on.files.block then [] else metas_on id on) (lone_writing_on None id on) (on.vol, rbw_meta id stamp)
          (has_unless on.files.writing (writing_metas_on id on) (on.vol, rbw_meta id stamp) (not_true on.files.writing it) (has_writing_metas stamp is)))
      clears_on k at TemporaryBlock is it = absurd is
      clears_on k at (TemporaryMeta stamp) is it = absurd is

    -- WHAT WAS FOUND AND GOES IS CLEARED
    pub clears_going : (vol : ℕ) (file : BlockFile) → IsFound (found_on found.items vol) file → goes (kept id) (found_on found.items vol) vol file ≡ true →
        Contains (cleared_places kept blocks temporary) (vol, path_of id file)
    clears_going vol file is it =
        let some = found_some (found_on found.items vol) file is in
        let there = on_there found.items vol some.0 some.1 in
        let same : found_on found.items vol ≡ Some there.0.files = some.1 ∙ sym (ap Some there.3) in
        subst (λ v. Contains (cleared_places kept blocks temporary) (v, path_of id file)) there.2
        (clears_on there.0 there.1 (kept id) refl file (subst (λ (o : Option FoundFiles). IsFound o file) same is)
        (subst (λ v. goes (kept id) (Some there.0.files) v file ≡ true) (sym there.2)
        (subst (λ (o : Option FoundFiles). goes (kept id) o vol file ≡ true) same it)))
