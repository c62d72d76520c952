-- What holds of each file of a block that was found, and of each name in `tmp`, holds of each place that an opening clears.
use Rattle.std.proofs.Common.{ℕ, Bool, true, false, List, [], ◌∷◌, Option, Some, None, All, Contains}
use Rattle.std.specs.Prelude.{◌+◌, ◌==◌, codes, if◌then◌else◌}
use Rattle.std.specs.List.{flat_map}
use Rattle.std.specs.declared.vec.Vec.{Vec}
use Rattle.std.specs.declared.alloc.Global.{Global}
use Rattle.std.proofs.lemmas.List.Elements.{All-nil, All-append, All-cons}
use Rattle.disk_model.specs.Files.{path_in}
use Rattle.volume_layout.specs.Paths.{block_path, meta_path, rbw_block, rbw_meta}
use Rattle.pool_survey.specs.declared.places.FoundOn.{FoundOn}
use Rattle.pool_open.specs.declared.paths.Piece.{Piece}
use Rattle.pool_open.specs.declared.paths.Piece.TheVariants.{Lesser, Superseded, Orphans}
use Rattle.pool_open.specs.Plan.{Place, copy_stamp, block_on, metas_on, writing_on, writing_metas_on, whole_copy, bare_block, lone_writing_on, piece_on, pieces_of, names_on, temporary_from, cleared_places}
use Rattle.pool_open.proofs.Lists.{flat_all, map_all}

module _ (P : Place → Type 0) where
  if_each : (b : Bool) (xs : List Place) → All P xs → All P (if b then xs else [])
  if_each true xs all = all
  if_each false xs all = All-nil P

  unless_each : (b : Bool) (xs : List Place) → All P xs → All P (if b then [] else xs)
  unless_each true xs all = All-nil P
  unless_each false xs all = all

  -- it holds of the files of a block that were found on a volume
  pub record EachOn (id : ℕ) (on : FoundOn) : Type 0 where
    pub block : P (on.vol, block_path id)
    pub writing : P (on.vol, rbw_block id)
    pub metas : (stamp : ℕ) → Contains on.files.metas.items stamp → P (on.vol, meta_path id stamp)
    pub writing_metas : (stamp : ℕ) → Contains on.files.writing_metas.items stamp → P (on.vol, rbw_meta id stamp)

  module _ (id : ℕ) (on : FoundOn) (each : EachOn id on) where
    block_each : All P (block_on id on)
    block_each = if_each on.files.block _ (All-cons P _ [] each.block (All-nil P))

    pub metas_each : All P (metas_on id on)
    metas_each = map_all P (λ (stamp : ℕ). (on.vol, meta_path id stamp)) on.files.metas.items each.metas

    writing_each : All P (writing_on id on)
    writing_each = if_each on.files.writing _ (All-cons P _ [] each.writing (All-nil P))

    writing_metas_each : All P (writing_metas_on id on)
    writing_metas_each = map_all P (λ (stamp : ℕ). (on.vol, rbw_meta id stamp)) on.files.writing_metas.items each.writing_metas

    whole_each : (stamp : Option ℕ) → All P (whole_copy stamp id on)
    whole_each None = All-nil P
    whole_each (Some stamp) = All-append P (block_on id on) (metas_on id on) block_each metas_each

    bare_each : (stamp : Option ℕ) → All P (bare_block stamp id on)
    bare_each None = block_each
    bare_each (Some stamp) = All-nil P

    lone_each : (kept : Option ℕ) → All P (lone_writing_on kept id on)
    lone_each None = unless_each on.files.writing (writing_metas_on id on) writing_metas_each
    lone_each (Some own) = All-nil P

    piece_each : (piece : Piece) (kept : Option ℕ) → All P (piece_on piece kept id on)
    piece_each Lesser None = All-nil P
    piece_each Lesser (Some own) = unless_each (on.vol == own) (whole_copy (copy_stamp on.files) id on) (whole_each (copy_stamp on.files))
    piece_each Superseded None = All-nil P
    piece_each Superseded (Some own) = All-append P (writing_on id on) _ writing_each
        (All-append P (writing_metas_on id on) (bare_block (copy_stamp on.files) id on) writing_metas_each (bare_each (copy_stamp on.files)))
    piece_each Orphans kept = All-append P (if on.files.block then [] else metas_on id on) (lone_writing_on kept id on)
        (unless_each on.files.block (metas_on id on) metas_each) (lone_each kept)

  module _ (kept : ℕ → Option ℕ) (blocks : List (ℕ × Vec FoundOn Global)) (temporary : List (List (List ℕ)))
      (each_name : (vol : ℕ) (name : List ℕ) → P (vol, path_in (codes "tmp") name))
      (each : (id : ℕ) (found : Vec FoundOn Global) → Contains blocks (id, found) → (on : FoundOn) → Contains found.items on → EachOn id on) where
    names_each : (from : ℕ) (all : List (List (List ℕ))) → All P (temporary_from from all)
    names_each from [] = All-nil P
    names_each from (names ∷ more) = All-append P (names_on from names) (temporary_from (from + 1) more)
        (map_all P (λ (name : List ℕ). (from, path_in (codes "tmp") name)) names (λ name has. each_name from name)) (names_each (from + 1) more)

    pieces_each : (piece : Piece) → All P (flat_map (pieces_of piece kept) blocks)
    pieces_each piece = flat_all P (pieces_of piece kept) blocks (λ entry has.
        flat_all P (piece_on piece (kept entry.0) entry.0) entry.1.items (λ on there. piece_each entry.0 on (each entry.0 entry.1 has on there) piece (kept entry.0)))

    pub plan_each : All P (cleared_places kept blocks temporary)
    plan_each = All-append P (temporary_from 1 temporary) _ (names_each 1 temporary)
        (All-append P (flat_map (pieces_of Lesser kept) blocks) _ (pieces_each Lesser)
        (All-append P (flat_map (pieces_of Superseded kept) blocks) (flat_map (pieces_of Orphans kept) blocks) (pieces_each Superseded) (pieces_each Orphans)))
