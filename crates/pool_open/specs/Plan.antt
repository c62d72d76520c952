-- What an opening makes of the files that were found on its volumes, and which of them it removes.
use Rattle.std.specs.Prelude.{ℕ, Bool, true, ◌||◌, ◌+◌, ◌==◌, if◌then◌else◌, List, [], ◌∷◌, ◌++◌, map, codes, string_bytes, Option, None, Some}
use Rattle.std.specs.List.{flat_map, list_any}
use Rattle.std.specs.declared.vec.Vec.{Vec}
use Rattle.std.specs.declared.alloc.Global.{Global}
use Rattle.volume_layout.specs.Paths.{block_path, meta_path, rbw_block, rbw_meta}
use Rattle.disk_model.specs.Files.{path_in}
use Rattle.volume_layout.specs.declared.block_file.BlockFile.{BlockFile}
use Rattle.volume_layout.specs.declared.block_file.BlockFile.TheVariants.{Block, WritingBlock, WritingMeta}
use Rattle.map_model.specs.Stands.{Leftover}
use Rattle.replica_map.specs.declared.entry.Entry.{Entry}
use Rattle.replica_map.specs.Counting.{is_final}
use Rattle.replica_map.specs.Books.{Books, entry_at}
use Rattle.pool_survey.specs.declared.found.FoundFiles.{FoundFiles}
use Rattle.pool_survey.specs.declared.places.FoundOn.{FoundOn}
use Rattle.pool_open.specs.declared.clearing.VolumePath.{VolumePath}
use Rattle.pool_open.specs.declared.paths.Piece.{Piece}
use Rattle.pool_open.specs.declared.paths.Piece.TheVariants.{Lesser, Superseded, Orphans}

-- ---- what stands of a block

-- the first of these stamps
abbrev pub first_stamp : List ℕ → Option ℕ
first_stamp [] = None
first_stamp (stamp ∷ stamps) = Some stamp

-- the stamp of the copy that these files are: a block file, and a meta beside it
abbrev pub copy_stamp : FoundFiles → Option ℕ
copy_stamp files = if files.block then first_stamp files.metas.items else None

-- a block file stands among them, finalised or being written
abbrev pub leaves_block : FoundOn → Bool
leaves_block on = on.files.block || on.files.writing

-- and on one of the volumes
abbrev pub leaves_some : List FoundOn → Bool
leaves_some places = list_any leaves_block places

-- ---- what is removed: paths, each on its volume

abbrev pub Place : Type 0
Place = ℕ × List ℕ

-- the places of paths on volumes
abbrev pub place_of : VolumePath → Place
place_of path = (path.vol, string_bytes path.path)

abbrev pub places_at : List VolumePath → List Place
places_at paths = map place_of paths

-- the files of a block on a volume
abbrev pub block_on : ℕ → FoundOn → List Place
block_on id on = if on.files.block then (on.vol, block_path id) ∷ [] else []

abbrev pub metas_on : ℕ → FoundOn → List Place
metas_on id on = map (λ stamp. (on.vol, meta_path id stamp)) on.files.metas.items

abbrev pub writing_on : ℕ → FoundOn → List Place
writing_on id on = if on.files.writing then (on.vol, rbw_block id) ∷ [] else []

abbrev pub writing_metas_on : ℕ → FoundOn → List Place
writing_metas_on id on = map (λ stamp. (on.vol, rbw_meta id stamp)) on.files.writing_metas.items

-- a copy of a block that is kept on another volume: its block file, then its metas
abbrev pub whole_copy : Option ℕ → ℕ → FoundOn → List Place
whole_copy None id on = []
whole_copy (Some stamp) id on = block_on id on ++ metas_on id on

abbrev pub lesser_on : (kept : Option ℕ) → ℕ → FoundOn → List Place
lesser_on None id on = []
lesser_on (Some vol) id on = if on.vol == vol then [] else whole_copy (copy_stamp on.files) id on

-- what a kept copy supersedes: the files that were being written, and a block file without a meta
abbrev pub bare_block : Option ℕ → ℕ → FoundOn → List Place
bare_block None id on = block_on id on
bare_block (Some stamp) id on = []

abbrev pub superseded_on : (kept : Option ℕ) → ℕ → FoundOn → List Place
superseded_on None id on = []
superseded_on (Some vol) id on = writing_on id on ++ (writing_metas_on id on ++ bare_block (copy_stamp on.files) id on)

-- the metas without a block file, finalised and under `current/rbw`
abbrev pub lone_writing_on : (kept : Option ℕ) → ℕ → FoundOn → List Place
lone_writing_on None id on = if on.files.writing then [] else writing_metas_on id on
lone_writing_on (Some vol) id on = []

abbrev pub orphans_on : (kept : Option ℕ) → ℕ → FoundOn → List Place
orphans_on kept id on = (if on.files.block then [] else metas_on id on) ++ lone_writing_on kept id on

-- one of the three, and that of all volumes
abbrev pub piece_on : Piece → (kept : Option ℕ) → ℕ → FoundOn → List Place
piece_on Lesser kept id on = lesser_on kept id on
piece_on Superseded kept id on = superseded_on kept id on
piece_on Orphans kept id on = orphans_on kept id on

abbrev pub pieces_of : Piece → (kept : ℕ → Option ℕ) → ℕ × Vec FoundOn Global → List Place
pieces_of piece kept entry = flat_map (piece_on piece (kept entry.0) entry.0) entry.1.items

-- the names in `tmp` of a volume, and those of the volumes from this one on
abbrev pub names_on : ℕ → List (List ℕ) → List Place
names_on vol names = map (λ name. (vol, path_in (codes "tmp") name)) names

abbrev pub temporary_from : ℕ → List (List (List ℕ)) → List Place
temporary_from vol [] = []
temporary_from vol (names ∷ more) = names_on vol names ++ temporary_from (vol + 1) more

-- What is removed, in this order: every name in `tmp`; the copies that aren't kept; what kept copies supersede; the metas
-- without a block file.
abbrev pub cleared_places : (kept : ℕ → Option ℕ) → List (ℕ × Vec FoundOn Global) → (temporary : List (List (List ℕ))) → List Place
cleared_places kept blocks temporary = temporary_from 1 temporary
    ++ (flat_map (pieces_of Lesser kept) blocks
    ++ (flat_map (pieces_of Superseded kept) blocks
    ++ flat_map (pieces_of Orphans kept) blocks))

-- the volume on which a block's replica is, by the books
abbrev pub volume_of : Entry → Option ℕ
volume_of entry = if is_final entry.state then Some entry.vol else None

abbrev pub kept_by : Option Entry → Option ℕ
kept_by None = None
kept_by (Some entry) = volume_of entry

abbrev pub kept_in : Books → ℕ → Option ℕ
kept_in books id = kept_by (entry_at books id)

-- ---- the files that wait

-- a file that waits to be deleted with its block
abbrev pub held_file : (vol stamp len : ℕ) → BlockFile → Leftover
held_file vol stamp len file = record { stamp = stamp; vol = vol; file = file; len = len; held = true }

-- the files on one volume of a block that waits: its block file, and what was being written, where an `rbw` block file
-- stands
abbrev pub kept_on : (stamp block_len writing_len : ℕ) → FoundOn → List Leftover
kept_on stamp block_len writing_len on =
    (if on.files.block then held_file on.vol stamp block_len Block ∷ [] else [])
    ++ (if on.files.writing then held_file on.vol stamp writing_len WritingBlock ∷ map (λ meta. held_file on.vol stamp 0 (WritingMeta meta)) on.files.writing_metas.items else [])
