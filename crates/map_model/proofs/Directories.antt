-- A directory that is listed, and a name in it, as the path of a block's file.
use Rattle.std.proofs.Common.{◌≡◌, ◌≢◌, ℕ, ◌<◌, ◌^◌, ◌/◌, ◌%◌, Bool, true, not, List, [], ◌∷◌, ◌++◌, Contains, All, refl, ap, sym, ◌∙◌, subst, append_assoc, arith}
use Rattle.std.specs.Prelude.{IsTrue, decimal, codes, ◌==◌, ◌&&◌}
use Rattle.std.specs.Str.Parse.{AllDigits}
use Rattle.std.proofs.lemmas.Bool.{false≢true, and_parts, true_from_ne_false}
use Rattle.std.proofs.lemmas.List.Elements.{All-append, All-cons, All-nil, All-contains}
use Rattle.volume_layout.specs.Paths.{IsBlockId, IsStamp, block_name, meta_name, dir_path, own_dir, block_path, meta_path, rbw_block, rbw_meta, tmp_block, tmp_meta}
use Rattle.volume_layout.proofs.Reading.{digits_decimal, digit_is, is_digit, IsStamp-is_stamp}
use Rattle.disk_model.specs.Files.{path_in}
use Rattle.disk_model.specs.Worlds.{World, IsFileName, IsPresent, IsListing}
use Rattle.volume_layout.specs.declared.block_file.BlockFile.{BlockFile}
use Rattle.volume_layout.specs.declared.block_file.BlockFile.TheVariants.{Block, Meta, WritingBlock, WritingMeta, TemporaryBlock, TemporaryMeta}
use Rattle.volume_layout.specs.BlockFiles.{path_of, dir_of, name_of, is_file}
use Rattle.map_model.specs.Slots.{is_standing, slot_at, view_of}
use Rattle.map_model.proofs.Places.{bare_absent, absent_empty}
use Rattle.map_model.proofs.Bridge.{view_slot}

with_slash : (dir name : List ℕ) → dir ++ 47 ∷ name ≡ dir ++ codes "/" ++ name
with_slash dir name = sym (append_assoc dir (codes "/") name)

-- the path of a file is its name in its directory
pub path_in_own_dir : (id : ℕ) (f : BlockFile) → path_in (dir_of id f) (name_of id f) ≡ path_of id f
unfolding block_path meta_path rbw_block rbw_meta tmp_block tmp_meta
path_in_own_dir id Block = with_slash (own_dir id) (block_name id)
path_in_own_dir id (Meta s) = with_slash (own_dir id) (meta_name id s)
path_in_own_dir id WritingBlock = refl
path_in_own_dir id (WritingMeta s) = refl
path_in_own_dir id TemporaryBlock = refl
path_in_own_dir id (TemporaryMeta s) = refl

-- the same by the two numbers of the block's own directory, and by the directories of files that aren't finalised
pub own_dir_is : (id : ℕ) → own_dir id ≡ dir_path (id / 65536 % 32) (id / 256 % 32)
unfolding own_dir
own_dir_is id = refl

pub path_in-block_path : (id : ℕ) → path_in (dir_path (id / 65536 % 32) (id / 256 % 32)) (block_name id) ≡ block_path id
path_in-block_path id = ap (λ dir. path_in dir (block_name id)) (sym (own_dir_is id)) ∙ path_in_own_dir id Block

pub path_in-meta_path : (id stamp : ℕ) → path_in (dir_path (id / 65536 % 32) (id / 256 % 32)) (meta_name id stamp) ≡ meta_path id stamp
path_in-meta_path id stamp = ap (λ dir. path_in dir (meta_name id stamp)) (sym (own_dir_is id)) ∙ path_in_own_dir id (Meta stamp)

pub path_in-rbw_block : (id : ℕ) → path_in (codes "current/rbw") (block_name id) ≡ rbw_block id
path_in-rbw_block id = path_in_own_dir id WritingBlock

pub path_in-rbw_meta : (id stamp : ℕ) → path_in (codes "current/rbw") (meta_name id stamp) ≡ rbw_meta id stamp
path_in-rbw_meta id stamp = path_in_own_dir id (WritingMeta stamp)

pub path_in-tmp_block : (id : ℕ) → path_in (codes "tmp") (block_name id) ≡ tmp_block id
path_in-tmp_block id = path_in_own_dir id TemporaryBlock

pub path_in-tmp_meta : (id stamp : ℕ) → path_in (codes "tmp") (meta_name id stamp) ≡ tmp_meta id stamp
path_in-tmp_meta id stamp = path_in_own_dir id (TemporaryMeta stamp)

-- ---- names of files

abbrev IsPlain : ℕ → Type 0
IsPlain byte = byte ≢ 47

digits_plain : (ds : List ℕ) → AllDigits 10 ds → All IsPlain ds
digits_plain [] all = All-nil IsPlain
digits_plain (c ∷ cs) all =
    All-cons IsPlain c cs (λ slash. false≢true (subst (λ n. is_digit n ≡ true) slash (digit_is c all.0))) (digits_plain cs all.1)

decimal_plain : (n : ℕ) → n < 2 ^ 63 → All IsPlain (decimal n)
decimal_plain n small = digits_plain (decimal n) (digits_decimal n (omega (arith, small)))

-- a text without a slash, by its bytes
abbrev is_plain : List ℕ → Bool
is_plain [] = true
is_plain (c ∷ cs) = not (c == 47) && is_plain cs

plain_text : (xs : List ℕ) → is_plain xs ≡ true → All IsPlain xs
plain_text [] is = All-nil IsPlain
plain_text (c ∷ cs) is =
    let parts = and_parts (not (c == 47)) (is_plain cs) is in
    All-cons IsPlain c cs (λ slash. false≢true (subst (λ n. not (n == 47) ≡ true) slash parts.0)) (plain_text cs parts.1)

block_name_plain : (id : ℕ) → IsBlockId id → All IsPlain (block_name id)
unfolding block_name
block_name_plain id valid = All-append IsPlain (codes "blk_") (decimal id) (plain_text (codes "blk_") refl) (decimal_plain id valid.1)

meta_name_plain : (id stamp : ℕ) → IsBlockId id → IsStamp stamp → All IsPlain (meta_name id stamp)
unfolding meta_name
meta_name_plain id stamp valid stamped =
    All-append IsPlain (block_name id ++ codes "_" ++ decimal stamp) (codes ".meta")
    (All-append IsPlain (block_name id ++ codes "_") (decimal stamp)
    (All-append IsPlain (block_name id) (codes "_") (block_name_plain id valid) (plain_text (codes "_") refl))
    (decimal_plain stamp stamped.1))
    (plain_text (codes ".meta") refl)

name_starts : (rest : List ℕ) → codes "blk_" ++ rest ≢ []
name_starts rest is = absurd (cc is)

pub block_name_is : (id : ℕ) → IsBlockId id → IsFileName (block_name id)
unfolding block_name
block_name_is id valid = record { not_empty = name_starts (decimal id); no_slash = block_name_plain id valid }

pub meta_name_is : (id stamp : ℕ) → IsBlockId id → IsStamp stamp → IsFileName (meta_name id stamp)
unfolding meta_name block_name
meta_name_is id stamp valid stamped = record {
  not_empty = name_starts (decimal id ++ codes "_" ++ decimal stamp ++ codes ".meta");
  no_slash = meta_name_plain id stamp valid stamped;
}

-- the name of a file is one
pub name_of_is : (id : ℕ) (f : BlockFile) → IsBlockId id → IsTrue (is_file f) → IsFileName (name_of id f)
name_of_is id Block valid is = block_name_is id valid
name_of_is id (Meta s) valid is = meta_name_is id s valid (IsStamp-is_stamp s is)
name_of_is id WritingBlock valid is = block_name_is id valid
name_of_is id (WritingMeta s) valid is = meta_name_is id s valid (IsStamp-is_stamp s is)
name_of_is id TemporaryBlock valid is = block_name_is id valid
name_of_is id (TemporaryMeta s) valid is = meta_name_is id s valid (IsStamp-is_stamp s is)

-- ---- a listing shows which files of a block stand

pub standing_listed : (world : World) (vol : ℕ) (dir name : List ℕ) (names : List (List ℕ)) → IsListing world vol dir names → IsFileName name →
    IsTrue (is_standing (slot_at world vol (path_in dir name))) → Contains names name
standing_listed world vol dir name names listing is there = listing.all name (record {
  is_name = is;
  stands = λ absent. false≢true (sym (ap is_standing (absent_empty world vol (path_in dir name) absent)) ∙ there);
})

pub listed_standing : (world : World) (vol : ℕ) (dir name : List ℕ) (names : List (List ℕ)) → IsListing world vol dir names → Contains names name →
    IsTrue (is_standing (slot_at world vol (path_in dir name)))
listed_standing world vol dir name names listing has =
    let present : IsPresent world vol dir name = All-contains (λ n. IsPresent world vol dir n) names name listing.only has in
    true_from_ne_false (is_standing (slot_at world vol (path_in dir name)))
    (λ bare. present.stands (bare_absent world vol (path_in dir name) bare))

module _ (world : World) (id vol : ℕ) (f : BlockFile) (names : List (List ℕ)) (valid : IsBlockId id) (is : IsTrue (is_file f)) (listing : IsListing world vol (dir_of id f) names) where
  slot_named : view_of world id vol f ≡ slot_at world vol (path_in (dir_of id f) (name_of id f))
  slot_named = view_slot world id vol f is ∙ ap (λ path. slot_at world vol path) (sym (path_in_own_dir id f))

  -- a file that stands is listed in its directory
  pub file_listed : IsTrue (is_standing (view_of world id vol f)) → Contains names (name_of id f)
  file_listed there =
      standing_listed world vol (dir_of id f) (name_of id f) names listing (name_of_is id f valid is) (sym (ap is_standing slot_named) ∙ there)

  -- and a name that is listed is that of a file that stands
  pub listed_file : Contains names (name_of id f) → IsTrue (is_standing (view_of world id vol f))
  listed_file has = ap is_standing slot_named ∙ listed_standing world vol (dir_of id f) (name_of id f) names listing has
