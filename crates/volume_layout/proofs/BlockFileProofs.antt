-- The paths of the files of blocks are apart, by one left inverse of them.
use Rattle.std.proofs.Common.{◌≡◌, ℕ, IsTrue, ap, sym, ◌∙◌}
use Rattle.volume_layout.specs.Paths.{IsBlockId}
use Rattle.volume_layout.specs.declared.block_file.BlockFile.{BlockFile}
use Rattle.volume_layout.specs.declared.block_file.BlockFile.TheVariants.{Block, Meta, WritingBlock, WritingMeta, TemporaryBlock, TemporaryMeta}
use Rattle.volume_layout.specs.BlockFiles.{path_of, is_file, PathsApart, FilesAside}
use Rattle.volume_layout.proofs.Reading.{PathParts, block, meta, finalised, writing, temporary, path_parts, path_parts-block, path_parts-meta, path_parts-rbw_block, path_parts-rbw_meta, path_parts-tmp_block, path_parts-tmp_meta, IsStamp-is_stamp}
use Rattle.volume_layout.proofs.AsideLemmas.{is_aside-block_path, is_aside-meta_path, is_aside-rbw_block, is_aside-rbw_meta, is_aside-tmp_block, is_aside-tmp_meta}

-- the block and the file whose path has these parts
abbrev read_parts : PathParts → ℕ × BlockFile
read_parts (finalised (block id)) = (id, Block)
read_parts (finalised (meta id stamp)) = (id, Meta stamp)
read_parts (writing (block id)) = (id, WritingBlock)
read_parts (writing (meta id stamp)) = (id, WritingMeta stamp)
read_parts (temporary (block id)) = (id, TemporaryBlock)
read_parts (temporary (meta id stamp)) = (id, TemporaryMeta stamp)

read_path : (id : ℕ) (file : BlockFile) → IsBlockId id → IsTrue (is_file file) → read_parts (path_parts (path_of id file)) ≡ (id, file)
read_path id Block valid is = ap read_parts (path_parts-block id valid)
read_path id (Meta stamp) valid is = ap read_parts (path_parts-meta id stamp valid (IsStamp-is_stamp stamp is))
read_path id WritingBlock valid is = ap read_parts (path_parts-rbw_block id valid)
read_path id (WritingMeta stamp) valid is = ap read_parts (path_parts-rbw_meta id stamp valid (IsStamp-is_stamp stamp is))
read_path id TemporaryBlock valid is = ap read_parts (path_parts-tmp_block id valid)
read_path id (TemporaryMeta stamp) valid is = ap read_parts (path_parts-tmp_meta id stamp valid (IsStamp-is_stamp stamp is))

pub paths_are_apart : PathsApart
paths_are_apart id other_id file other valid other_valid is other_is same =
    let both : (id, file) ≡ (other_id, other) = sym (read_path id file valid is) ∙ ap (λ p. read_parts (path_parts p)) same ∙ read_path other_id other other_valid other_is in
    (ap (λ (pair : ℕ × BlockFile). pair.0) both, ap (λ (pair : ℕ × BlockFile). pair.1) both)

pub files_aside : FilesAside
files_aside id Block = is_aside-block_path id
files_aside id (Meta stamp) = is_aside-meta_path id stamp
files_aside id WritingBlock = is_aside-rbw_block id
files_aside id (WritingMeta stamp) = is_aside-rbw_meta id stamp
files_aside id TemporaryBlock = is_aside-tmp_block id
files_aside id (TemporaryMeta stamp) = is_aside-tmp_meta id stamp
