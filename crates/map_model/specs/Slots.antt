-- The files of one block in one state of the disk: on each volume each of them is nothing, settled, or a draft.
use Rattle.std.specs.Prelude.{ℕ, Bool, true, false, ◌&&◌, ◌==◌, if◌then◌else◌, List, Option, Some, None}
use Rattle.volume_layout.specs.declared.block_file.BlockFile.{BlockFile}
use Rattle.volume_layout.specs.declared.block_file.BlockFile.TheVariants.{Block, Meta, WritingBlock, WritingMeta}
use Rattle.volume_layout.specs.BlockFiles.{path_of, is_file, same_file}
use Rattle.disk_model.specs.Worlds.{World}
use Rattle.map_model.specs.World.{draft_number}
use Rattle.map_model.specs.Copies.{BlockFiles}

-- what stands at a place
pub data Slot : Type 0 where
  empty : Slot
  holds : (bytes : List ℕ) → Slot
  drafted : (number : ℕ) → Slot

-- something stands there
abbrev pub is_standing : Slot → Bool
is_standing empty = false
is_standing (holds bytes) = true
is_standing (drafted number) = true

-- the settled bytes
abbrev pub bytes_in : Slot → Option (List ℕ)
bytes_in empty = None
bytes_in (holds bytes) = Some bytes
bytes_in (drafted number) = None

-- one block's files in one state of the disk
abbrev pub View : Type 0
View = ℕ → BlockFile → Slot

abbrev pub slot_of : Option ℕ → Option (List ℕ) → Slot
slot_of (Some number) content = drafted number
slot_of None (Some bytes) = holds bytes
slot_of None None = empty

-- what stands at a place of the disk
abbrev pub slot_at : World → ℕ → List ℕ → Slot
slot_at world vol path = slot_of (draft_number world.drafts vol path) (world.settled vol path)

-- the block's files in a state of the disk
unfoldable pub view_of : World → ℕ → View
view_of world id vol file = if is_file file then slot_at world vol (path_of id file) else empty

-- the view with one slot changed
abbrev pub set_slot : View → ℕ → BlockFile → Slot → View
set_slot view vol file slot = λ v other. if same_file file other && (vol == v) then slot else view v other

-- after each call of the disk on the block's files
abbrev pub create_in : View → ℕ → BlockFile → ℕ → View
create_in view vol file number = set_slot view vol file (drafted number)

abbrev pub publish_in : View → ℕ → (from target : BlockFile) → List ℕ → View
publish_in view vol from target bytes = set_slot (set_slot view vol from empty) vol target (holds bytes)

abbrev pub remove_in : View → ℕ → BlockFile → View
remove_in view vol file = set_slot view vol file empty

-- what counts for reading the block
abbrev pub files_in : View → BlockFiles
files_in view = record {
  block = λ spot. bytes_in (view spot.vol Block);
  meta = λ spot stamp. bytes_in (view spot.vol (Meta stamp));
  writing = λ vol. is_standing (view vol WritingBlock);
  writing_meta = λ vol stamp. is_standing (view vol (WritingMeta stamp));
}
