-- What is foreign.
use Rattle.std.proofs.Common.{◌≡◌, ◌≢◌, ◌<◌, ℕ, Bool, true, false, List, ◌++◌, get_or, drop, refl, sym, ap, ◌∙◌, arith}
use Rattle.std.specs.Prelude.{IsTrue, codes, nat_eq, ◌||◌}
use Rattle.std.specs.List.{starts_with}
use Rattle.std.proofs.lemmas.Bool.{false≢true}
use Rattle.std.proofs.lemmas.List.{append_cancel_right}
use Rattle.volume_layout.specs.Paths.{IsBlockId, IsStamp, block_name, meta_name, dir_path, own_dir, block_path, meta_path, rbw_block, rbw_meta, tmp_block, tmp_meta}
use Rattle.volume_layout.specs.Names.{Names}
use Rattle.volume_layout.specs.declared.block_file.BlockFile.{BlockFile}
use Rattle.volume_layout.specs.declared.block_file.BlockFile.TheVariants.{Block, Meta, WritingBlock, WritingMeta, TemporaryBlock, TemporaryMeta}
use Rattle.volume_layout.specs.BlockFiles.{path_of, is_file}
use Rattle.volume_layout.specs.Foreign.{is_temporary, in_dir, is_where_blocks_are, ElsewhereIsForeign, OtherNamesAreForeign, StraysAreForeign}
use Rattle.volume_layout.specs.declared.names.Named.TheVariants.{Other}
use Rattle.volume_layout.proofs.Reading.{block, meta, name_parts, name_parts-block, name_parts-meta, finalised_name, finalised_name-own_dir, finalised_name-dir_path, IsStamp-is_stamp}

-- ---- where the files of blocks are

where_files_are : (id : ℕ) (file : BlockFile) → is_where_blocks_are (path_of id file) ≡ true
unfolding block_path meta_path own_dir dir_path rbw_block rbw_meta tmp_block tmp_meta
where_files_are id Block = refl
where_files_are id (Meta stamp) = refl
where_files_are id WritingBlock = refl
where_files_are id (WritingMeta stamp) = refl
where_files_are id TemporaryBlock = refl
where_files_are id (TemporaryMeta stamp) = refl

first_none : (a b c : Bool) → ((a || b) || c) ≡ false → a ≡ false
first_none false b c is = refl
first_none true b c is = absurd (false≢true (sym is))

pub elsewhere_is_foreign : ElsewhereIsForeign
elsewhere_is_foreign path away = record {
  not_temporary = first_none (is_temporary path) (starts_with nat_eq path (codes "current/rbw/")) (starts_with nat_eq path (codes "current/finalized/subdir")) away;
  no_file = λ id file valid is same. false≢true (sym away ∙ ap is_where_blocks_are same ∙ where_files_are id file);
}

-- ---- other names

-- the ninth byte tells `current/rbw` and finalised files apart, and the first one `tmp`
abbrev ninth : List ℕ → ℕ
ninth path = get_or path 8 0

abbrev first : List ℕ → ℕ
first path = get_or path 0 0

other_in_rbw : (name : List ℕ) → Names name Other → (id : ℕ) (file : BlockFile) → IsBlockId id → IsTrue (is_file file) → codes "current/rbw/" ++ name ≢ path_of id file
unfolding block_path meta_path own_dir dir_path rbw_block rbw_meta tmp_block tmp_meta
other_in_rbw name other id Block valid is same = let bad : 114 ≡ 102 = ap ninth same in omega (arith, bad)
other_in_rbw name other id (Meta stamp) valid is same = let bad : 114 ≡ 102 = ap ninth same in omega (arith, bad)
other_in_rbw name other id WritingBlock valid is same = other.0 id valid (ap (λ p. drop 12 p) same)
other_in_rbw name other id (WritingMeta stamp) valid is same = other.1 id stamp valid (IsStamp-is_stamp stamp is) (ap (λ p. drop 12 p) same)
other_in_rbw name other id TemporaryBlock valid is same = let bad : 99 ≡ 116 = ap first same in omega (arith, bad)
other_in_rbw name other id (TemporaryMeta stamp) valid is same = let bad : 99 ≡ 116 = ap first same in omega (arith, bad)

-- no file that isn't finalised stands in a directory of finalised files
module _ (d1 d2 : ℕ) (low1 : d1 < 32) (low2 : d2 < 32) (name : List ℕ) where
  not_writing : (rest : List ℕ) → in_dir d1 d2 name ≢ codes "current/rbw/" ++ rest
  unfolding dir_path
  not_writing rest same = let bad : 102 ≡ 114 = ap ninth same in omega (arith, bad)

  not_moving : (rest : List ℕ) → in_dir d1 d2 name ≢ codes "tmp/" ++ rest
  unfolding dir_path
  not_moving rest same = let bad : 99 ≡ 116 = ap first same in omega (arith, bad)

  -- the name of a finalised file there is this one
  same_name : (id : ℕ) (other : List ℕ) → in_dir d1 d2 name ≡ own_dir id ++ codes "/" ++ other → name ≡ other
  same_name id other same = sym (finalised_name-dir_path d1 d2 low1 low2 name) ∙ ap finalised_name same ∙ finalised_name-own_dir id other

  -- so a path there is foreign unless it is that of a finalised file of its name
  in_dir_foreign : ((id : ℕ) → IsBlockId id → name ≡ block_name id → in_dir d1 d2 name ≢ block_path id)
      → ((id stamp : ℕ) → IsBlockId id → IsStamp stamp → name ≡ meta_name id stamp → in_dir d1 d2 name ≢ meta_path id stamp)
      → (id : ℕ) (file : BlockFile) → IsBlockId id → IsTrue (is_file file) → in_dir d1 d2 name ≢ path_of id file
  unfolding block_path meta_path rbw_block rbw_meta tmp_block tmp_meta
  in_dir_foreign no_block no_meta id Block valid is same = no_block id valid (same_name id (block_name id) same) same
  in_dir_foreign no_block no_meta id (Meta stamp) valid is same = no_meta id stamp valid (IsStamp-is_stamp stamp is) (same_name id (meta_name id stamp) same) same
  in_dir_foreign no_block no_meta id WritingBlock valid is same = not_writing (block_name id) same
  in_dir_foreign no_block no_meta id (WritingMeta stamp) valid is same = not_writing (meta_name id stamp) same
  in_dir_foreign no_block no_meta id TemporaryBlock valid is same = not_moving (block_name id) same
  in_dir_foreign no_block no_meta id (TemporaryMeta stamp) valid is same = not_moving (meta_name id stamp) same

  in_dir_not_temporary : is_temporary (in_dir d1 d2 name) ≡ false
  unfolding dir_path
  in_dir_not_temporary = refl

pub other_names_are_foreign : OtherNamesAreForeign
other_names_are_foreign name other = (
  record { not_temporary = refl; no_file = other_in_rbw name other },
  λ d1 d2 low1 low2. record {
    not_temporary = in_dir_not_temporary d1 d2 low1 low2 name;
    no_file = in_dir_foreign d1 d2 low1 low2 name (λ id valid is same. other.0 id valid is) (λ id stamp valid stamped is same. other.1 id stamp valid stamped is);
  },
)

-- ---- files in a wrong directory

-- two files of one name stand in one directory only where the directories are the same
same_dir : (one other name : List ℕ) → one ++ codes "/" ++ name ≡ other ++ codes "/" ++ name → one ≡ other
same_dir one other name same = append_cancel_right one other (codes "/") (append_cancel_right (one ++ codes "/") (other ++ codes "/") name same)

-- the block that a name is of
block_is : (id other : ℕ) → IsBlockId id → IsBlockId other → block_name id ≡ block_name other → id ≡ other
block_is id other valid other_valid same =
    let parts : block id ≡ block other = sym (name_parts-block id valid) ∙ ap name_parts same ∙ name_parts-block other other_valid in cc

not_meta : (id other stamp : ℕ) → IsBlockId id → IsBlockId other → IsStamp stamp → block_name id ≢ meta_name other stamp
not_meta id other stamp valid other_valid stamped same =
    let parts : block id ≡ meta other stamp = sym (name_parts-block id valid) ∙ ap name_parts same ∙ name_parts-meta other stamp other_valid stamped in cc

meta_is : (id stamp other last : ℕ) → IsBlockId id → IsStamp stamp → IsBlockId other → IsStamp last → meta_name id stamp ≡ meta_name other last → (id ≡ other) × (stamp ≡ last)
meta_is id stamp other last valid stamped other_valid last_stamped same =
    let parts : meta id stamp ≡ meta other last = sym (name_parts-meta id stamp valid stamped) ∙ ap name_parts same ∙ name_parts-meta other last other_valid last_stamped in (cc, cc)

module _ (d1 d2 id : ℕ) (low1 : d1 < 32) (low2 : d2 < 32) (valid : IsBlockId id) (away : dir_path d1 d2 ≢ own_dir id) where
  stray_block : (other : ℕ) → IsBlockId other → block_name id ≡ block_name other → in_dir d1 d2 (block_name id) ≢ block_path other
  unfolding block_path
  stray_block other other_valid named same =
      let is : other ≡ id = sym (block_is id other valid other_valid named) in
      away (same_dir (dir_path d1 d2) (own_dir id) (block_name id) (same ∙ ap (λ n. own_dir n ++ codes "/" ++ block_name n) is))

  stray_meta : (stamp : ℕ) → IsStamp stamp → (other last : ℕ) → IsBlockId other → IsStamp last → meta_name id stamp ≡ meta_name other last →
      in_dir d1 d2 (meta_name id stamp) ≢ meta_path other last
  unfolding meta_path
  stray_meta stamp stamped other last other_valid last_stamped named same =
      let is = meta_is id stamp other last valid stamped other_valid last_stamped named in
      away (same_dir (dir_path d1 d2) (own_dir id) (meta_name id stamp)
      (same ∙ ap (λ name. own_dir other ++ codes "/" ++ name) (sym named) ∙ ap (λ n. own_dir n ++ codes "/" ++ meta_name id stamp) (sym is.0)))

pub strays_are_foreign : StraysAreForeign
strays_are_foreign d1 d2 id low1 low2 valid away = (
  record {
    not_temporary = in_dir_not_temporary d1 d2 low1 low2 (block_name id);
    no_file = in_dir_foreign d1 d2 low1 low2 (block_name id) (stray_block d1 d2 id low1 low2 valid away)
        (λ other stamp other_valid stamped is same. not_meta id other stamp valid other_valid stamped is);
  },
  λ stamp stamped. record {
    not_temporary = in_dir_not_temporary d1 d2 low1 low2 (meta_name id stamp);
    no_file = in_dir_foreign d1 d2 low1 low2 (meta_name id stamp)
        (λ other other_valid is same. not_meta other id stamp other_valid valid stamped (sym is))
        (stray_meta d1 d2 id low1 low2 valid away stamp stamped);
  },
)
