-- Which file of a block a name in a directory names.
use Rattle.std.proofs.Common.{◌≡◌, ◌≢◌, ℕ, true, false, inl, inr, ◌⊎◌, List, refl, ap, sym, ◌∙◌, subst}
use Rattle.std.specs.Prelude.{IsTrue, ◌&&◌, ◌==◌, bytes_eq}
use Rattle.std.proofs.lemmas.Bool.{false≢true, and_parts, eq-eqb, eqb-true, cases_Bool, false_from_ne_true}
use Rattle.std.proofs.lemmas.Slice.Eq.{bytes_eq-Decides}
use Rattle.volume_layout.specs.Paths.{IsBlockId, IsStamp, block_name, meta_name, dir_path, outer_dir, inner_dir}
use Rattle.volume_layout.specs.Names.{Names}
use Rattle.volume_layout.specs.declared.names.Named.TheVariants.{Block as BlockName, Meta as MetaName, Other}
use Rattle.volume_layout.proofs.OneName.{one_reading}
use Rattle.volume_layout.proofs.Reading.{IsStamp-is_stamp}
use Rattle.volume_layout.specs.declared.block_file.BlockFile.{BlockFile}
use Rattle.volume_layout.specs.declared.block_file.BlockFile.TheVariants.{Block, Meta, WritingBlock, WritingMeta, TemporaryBlock, TemporaryMeta}
use Rattle.volume_layout.specs.BlockFiles.{path_of, dir_of, name_of, is_file, same_file}
use Rattle.map_model.proofs.Bridge.{path_id-file, path_of-injective}
use Rattle.map_model.proofs.Directories.{path_in_own_dir, own_dir_is}
use Rattle.map_model.proofs.SlotLemmas.{same_file-is, same_file-refl}
use Rattle.volume_layout.proofs.Reading.{path_id}
use Rattle.disk_model.specs.Files.{path_in}
use Rattle.pool_survey.specs.declared.naming.Directory.{Directory}
use Rattle.pool_survey.specs.declared.naming.Directory.TheVariants.{Writing, Finalised}
use Rattle.pool_survey.specs.Directories.{directory_path, is_in, is_looked_for, block_in, meta_in}

-- a file in a directory is a block file or a meta file there
shape : (dir : Directory) (id : ℕ) (file : BlockFile) → IsTrue (is_in dir id file) → (file ≡ block_in dir) ⊎ ((stamp : ℕ) × (file ≡ meta_in dir stamp))
shape Writing id Block in' = absurd (false≢true in')
shape Writing id (Meta stamp) in' = absurd (false≢true in')
shape Writing id WritingBlock in' = inl refl
shape Writing id (WritingMeta stamp) in' = inr (stamp, refl)
shape Writing id TemporaryBlock in' = absurd (false≢true in')
shape Writing id (TemporaryMeta stamp) in' = absurd (false≢true in')
shape (Finalised d1 d2) id Block in' = inl refl
shape (Finalised d1 d2) id (Meta stamp) in' = inr (stamp, refl)
shape (Finalised d1 d2) id WritingBlock in' = absurd (false≢true in')
shape (Finalised d1 d2) id (WritingMeta stamp) in' = absurd (false≢true in')
shape (Finalised d1 d2) id TemporaryBlock in' = absurd (false≢true in')
shape (Finalised d1 d2) id (TemporaryMeta stamp) in' = absurd (false≢true in')

-- and one that is looked for
pub looked_for : (dir : Directory) (id : ℕ) (file : BlockFile) → IsTrue (is_in dir id file) → IsTrue (is_looked_for file)
looked_for Writing id Block in' = refl
looked_for Writing id (Meta stamp) in' = refl
looked_for Writing id WritingBlock in' = refl
looked_for Writing id (WritingMeta stamp) in' = refl
looked_for Writing id TemporaryBlock in' = in'
looked_for Writing id (TemporaryMeta stamp) in' = in'
looked_for (Finalised d1 d2) id Block in' = refl
looked_for (Finalised d1 d2) id (Meta stamp) in' = refl
looked_for (Finalised d1 d2) id WritingBlock in' = refl
looked_for (Finalised d1 d2) id (WritingMeta stamp) in' = refl
looked_for (Finalised d1 d2) id TemporaryBlock in' = in'
looked_for (Finalised d1 d2) id (TemporaryMeta stamp) in' = in'

block_named : (dir : Directory) (id : ℕ) → name_of id (block_in dir) ≡ block_name id
block_named Writing id = refl
block_named (Finalised d1 d2) id = refl

meta_named : (dir : Directory) (id stamp : ℕ) → name_of id (meta_in dir stamp) ≡ meta_name id stamp
meta_named Writing id stamp = refl
meta_named (Finalised d1 d2) id stamp = refl

meta_stamp : (dir : Directory) (stamp : ℕ) → IsTrue (is_file (meta_in dir stamp)) → IsStamp stamp
meta_stamp Writing stamp is = IsStamp-is_stamp stamp is
meta_stamp (Finalised d1 d2) stamp is = IsStamp-is_stamp stamp is

-- both kinds of files of a block belong into the same directories
both_in : (dir : Directory) (id stamp : ℕ) → is_in dir id (meta_in dir stamp) ≡ is_in dir id (block_in dir)
both_in Writing id stamp = refl
both_in (Finalised d1 d2) id stamp = refl

same_id : (id other : ℕ) → BlockName id ≡ BlockName other → id ≡ other
same_id id other same = cc

same_meta_id : (id stamp other last : ℕ) → MetaName id stamp ≡ MetaName other last → id ≡ other
same_meta_id id stamp other last same = cc

module _ (dir : Directory) (name : List ℕ) where
  -- the name of a block file whose block doesn't belong there
  pub no_block : (id : ℕ) → Names name (BlockName id) → is_in dir id (block_in dir) ≡ false →
      (other : ℕ) → IsBlockId other → (file : BlockFile) → IsTrue (is_file file) → IsTrue (is_in dir other file) → name ≢ name_of other file
  no_block id names out other valid file is in' same = elim (shape dir other file in') [
    | inl at ↦
        let called : name ≡ block_name other = same ∙ ap (name_of other) at ∙ block_named dir other in
        let one = same_id id other (one_reading name (BlockName id) (BlockName other) names (valid, called)) in
        false≢true (sym out ∙ ap (λ n. is_in dir n (block_in dir)) one ∙ ap (is_in dir other) (sym at) ∙ in')
    | inr at ↦
        let called : name ≡ meta_name other at.0 = same ∙ ap (name_of other) at.1 ∙ meta_named dir other at.0 in
        let stamped = meta_stamp dir at.0 (subst (λ f. IsTrue (is_file f)) at.1 is) in
        let bad = one_reading name (BlockName id) (MetaName other at.0) names (valid, stamped, called) in
        absurd cc
  ]

  -- and of a meta file
  pub no_meta : (id stamp : ℕ) → Names name (MetaName id stamp) → is_in dir id (block_in dir) ≡ false →
      (other : ℕ) → IsBlockId other → (file : BlockFile) → IsTrue (is_file file) → IsTrue (is_in dir other file) → name ≢ name_of other file
  no_meta id stamp names out other valid file is in' same = elim (shape dir other file in') [
    | inl at ↦
        let called : name ≡ block_name other = same ∙ ap (name_of other) at ∙ block_named dir other in
        let bad = one_reading name (MetaName id stamp) (BlockName other) names (valid, called) in
        absurd cc
    | inr at ↦
        let called : name ≡ meta_name other at.0 = same ∙ ap (name_of other) at.1 ∙ meta_named dir other at.0 in
        let stamped = meta_stamp dir at.0 (subst (λ f. IsTrue (is_file f)) at.1 is) in
        let one = same_meta_id id stamp other at.0 (one_reading name (MetaName id stamp) (MetaName other at.0) names (valid, stamped, called)) in
        false≢true (sym out ∙ ap (λ n. is_in dir n (block_in dir)) one ∙ sym (both_in dir other at.0) ∙ ap (is_in dir other) (sym at.1) ∙ in')
  ]

  -- any other name
  pub no_other : Names name Other →
      (other : ℕ) → IsBlockId other → (file : BlockFile) → IsTrue (is_file file) → IsTrue (is_in dir other file) → name ≢ name_of other file
  no_other names other valid file is in' same = elim (shape dir other file in') [
    | inl at ↦ names.0 other valid (same ∙ ap (name_of other) at ∙ block_named dir other)
    | inr at ↦
        let stamped = meta_stamp dir at.0 (subst (λ f. IsTrue (is_file f)) at.1 is) in
        names.1 other at.0 valid stamped (same ∙ ap (name_of other) at.1 ∙ meta_named dir other at.0)
  ]

-- ---- names in one directory

module _ (d1 d2 id : ℕ) (numbers : IsTrue ((outer_dir id == d1) && (inner_dir id == d2))) where
  own : dir_of id Block ≡ dir_path d1 d2
  own =
      let parts = and_parts _ _ numbers in
      own_dir_is id ∙ ap (λ n. dir_path n (inner_dir id)) (eqb-true _ _ parts.0) ∙ ap (dir_path d1) (eqb-true _ _ parts.1)

-- a file in a directory stands there
pub stands_in : (dir : Directory) (id : ℕ) (file : BlockFile) → IsTrue (is_in dir id file) → dir_of id file ≡ directory_path dir
stands_in Writing id Block in' = absurd (false≢true in')
stands_in Writing id (Meta stamp) in' = absurd (false≢true in')
stands_in Writing id WritingBlock in' = refl
stands_in Writing id (WritingMeta stamp) in' = refl
stands_in Writing id TemporaryBlock in' = absurd (false≢true in')
stands_in Writing id (TemporaryMeta stamp) in' = absurd (false≢true in')
stands_in (Finalised d1 d2) id Block in' = own d1 d2 id in'
stands_in (Finalised d1 d2) id (Meta stamp) in' = own d1 d2 id in'
stands_in (Finalised d1 d2) id WritingBlock in' = absurd (false≢true in')
stands_in (Finalised d1 d2) id (WritingMeta stamp) in' = absurd (false≢true in')
stands_in (Finalised d1 d2) id TemporaryBlock in' = absurd (false≢true in')
stands_in (Finalised d1 d2) id (TemporaryMeta stamp) in' = absurd (false≢true in')

module _ (dir : Directory) (id : ℕ) (file : BlockFile) (valid : IsBlockId id) (is : IsTrue (is_file file)) (in' : IsTrue (is_in dir id file))
    (other : ℕ) (name : BlockFile) (other_valid : IsBlockId other) (name_is : IsTrue (is_file name)) (name_in : IsTrue (is_in dir other name)) where
  same_path : name_of other name ≡ name_of id file → path_of other name ≡ path_of id file
  same_path same =
      sym (path_in_own_dir other name) ∙ ap (λ d. path_in d (name_of other name)) (stands_in dir other name name_in ∙ sym (stands_in dir id file in'))
      ∙ ap (path_in (dir_of id file)) same ∙ path_in_own_dir id file

  -- files with one name in a directory are the same
  same_block : name_of other name ≡ name_of id file → other ≡ id
  same_block same = sym (path_id-file other name other_valid name_is) ∙ ap path_id (same_path same) ∙ path_id-file id file valid is

  same_kind : name_of other name ≡ name_of id file → name ≡ file
  same_kind same =
      path_of-injective id name file valid name_is is (ap (λ n. path_of n name) (sym (same_block same)) ∙ same_path same)

  -- a name in the directory is this file's where the file is this one
  pub called : bytes_eq (name_of other name) (name_of id file) ≡ ((other == id) && same_file name file)
  called = elim (cases_Bool (bytes_eq (name_of other name) (name_of id file))) [
    | inl is_called ↦
        let same = (bytes_eq-Decides (name_of other name) (name_of id file)).0 is_called in
        is_called ∙ sym (ap (λ b. b && same_file name file) (eq-eqb other id (same_block same))
        ∙ subst (λ f. same_file name f ≡ true) (same_kind same) (same_file-refl name))
    | inr isnt ↦
        isnt ∙ sym (false_from_ne_true _ (λ both.
        let parts = and_parts _ _ both in
        let ids : other ≡ id = eqb-true other id parts.0 in
        let kinds : name ≡ file = same_file-is name file parts.1 in
        false≢true (sym isnt ∙ (bytes_eq-Decides (name_of other name) (name_of id file)).1 (ap (λ n. name_of n name) ids ∙ ap (name_of id) kinds))))
  ]

-- a file elsewhere isn't one in the directory
pub not_called : (dir : Directory) (id : ℕ) (file : BlockFile) → IsTrue (is_in dir id file) → (other : ℕ) (name : BlockFile) → is_in dir other name ≡ false →
    ((other == id) && same_file name file) ≡ false
not_called dir id file in' other name out = false_from_ne_true _ (λ both.
    let parts = and_parts _ _ both in
    let ids : other ≡ id = eqb-true other id parts.0 in
    let kinds : name ≡ file = same_file-is name file parts.1 in
    false≢true (sym out ∙ ap (λ n. is_in dir n name) ids ∙ ap (is_in dir id) kinds ∙ in'))
