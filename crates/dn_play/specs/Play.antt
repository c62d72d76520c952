-- What a run does with its disks, its input and its output.
use Rattle.std.specs.Prelude.{ℕ, ◌≡◌, ◌⊎◌, List, [], ◌∷◌, length, Option, Some, IfSome}
use Rattle.disk_model.specs.declared.disks.PoolDisks.{Ghosts}
use Rattle.disk_model.specs.declared.disks.Draft as drafts
use Rattle.disk_model.specs.declared.disks.Reader as readers
use Rattle.disk_model.specs.Files.{Files}
use Rattle.disk_model.specs.Worlds.{World}
use Rattle.disk_model.specs.Told.{CanLeave}
use Rattle.disk_model.specs.Causes.{Rose}
use Rattle.disk_model.specs.Marks.{Mark, IsLater, faulty_of, mark_of}
use Rattle.volume_layout.specs.Paths.{IsBlockId}
use Rattle.map_model.specs.Cells.{Replica, final, waiting}
use Rattle.map_model.specs.Copies.{block_files, OneWhole}
use Rattle.map_model.specs.Allows.{AllowsImage}
use Rattle.map_model.specs.Openings.{MakesCells, ReadsAlike}
use Rattle.map_model.specs.Slots.{view_of}
use Rattle.map_model.specs.Sound.{exactly, Fits, IsSoundBy, IsSound}
use Rattle.pool_open.specs.Numbering.{ChoosesAnew}
use Rattle.pool_open.specs.Waiting.{WaitsAs}
use Rattle.pool_open.specs.Outcome.{KeptOn, IsOpened}
use Rattle.script_lang.specs.declared.reply.Reply.{Reply}
use Rattle.run_end.specs.declared.ending.Ending.{Ending}
use Rattle.run_end.specs.declared.ending.Ending.TheVariants.{NoMemory, OpenFault}
use Rattle.run_end.specs.Ending.{status_of}
use Rattle.run_end.specs.Closing.{Writes, Ends}
use Rattle.run_model.specs.State.{RunState, Turn, turn_lines, turn_replies, last_state, last_mark}
use Rattle.run_model.specs.Books.{BooksOpened}
use Rattle.run_model.specs.Commands.{Trust}
use Rattle.run_model.specs.Lines.{Follows}
use Rattle.run_model.specs.Images.{AllowedSince, AllowedByEach}
use Rattle.run_model.specs.Carrying.{IsKnown}
use Rattle.dn_play.specs.Endings.{Reads, Shows, text_of}
use Rattle.dn_play.specs.Answer.{IsOfLines, EndsAt, NextReopens}

-- what a run is given and leaves: its disks' counts at the entry and at the exit, what they told at the entry, its share
-- of each volume, and its input
pub record Course : Type 0 where
  pub entry : Mark
  pub exit : Mark
  pub told : Option (List World)
  pub shares : List ℕ
  pub input : Option (List ℕ)

-- the disks tell that they hold this image, without drafts
abbrev pub HoldsImage : Option (List World) → Files → Type 0
HoldsImage told image = told ≡ Some (record { settled = image; drafts = [] } ∷ [])

-- the disks tell one image, in which the meta file of each copy that is read matches its bytes
abbrev pub BeginsSound : Option (List World) → Type 0
BeginsSound told = (start : Files) × HoldsImage told start × IsSound start

-- the endings of a run whose opening isn't done
abbrev pub IsBeforeOpened : Ending → Type 0
IsBeforeOpened ending = (ending ≡ NoMemory) ⊎ (ending ≡ OpenFault)

-- The opening wasn't done, and nothing was carried out: it failed, or memory was wanting. Every image that a crash could
-- leave since the entry reads as the one at the beginning, and is sound where that is.
pub record StopsUnopened (since : ℕ → Files → Type 0) (course : Course) (ending : Ending) (shown : List Reply) : Type 0 where
  pub is_before : IsBeforeOpened ending
  pub nothing : shown ≡ []
  pub counts : IsLater course.entry course.exit
  pub open_fault : ending ≡ OpenFault → Rose course.entry.faults course.exit.faults
  pub images : (start : Files) → HoldsImage course.told start → (image : Files) → since course.entry.moment image → ReadsAlike (block_files start) image
  pub sound : (start : Files) → HoldsImage course.told start → IsSound start → (image : Files) → since course.entry.moment image → IsSound image

-- what some moment from this one on could have left reads as the image does, or some moment from that one on could have
-- left it
abbrev pub ReadsAlikeUpTo : (since : ℕ → Files → Type 0) → Mark → Mark → Files → Type 0
ReadsAlikeUpTo since from to start = (image : Files) → since from.moment image → ReadsAlike (block_files start) image ⊎ since to.moment image

-- The opening was done. Then lines of the script were carried out, in order, whatever is known of the disks. Where the
-- disks tell one image at the entry, the first cells are what an opening makes of it, and the meta files those of its
-- copies; the first books of a replica name the volume of the copy that is read of it there, those of a block that waits are by
-- the files that stand of it. The pool chooses anew, from
-- revision 1 on. What a crash could leave from
-- the entry on reads as that image, or could be left since the opening's end; what it could leave since a line's
-- beginning, the cells before or after that line allow, or it could be left since the line's end; what it could leave
-- since the last line's end, the cells after it allow, and so does each image that can be left at the exit. Of each
-- block that has a copy in an image that a crash could leave since the opening's end, one whole copy stands alone.
-- Where the image at the entry is sound, so is each that a crash could leave since then. The run may end at an opening
-- again that isn't done.
pub record RunsLines (Faulty : ℕ → ℕ → Type 0) (since : ℕ → Files → Type 0) (can_leave : Files → Type 0) (course : Course) (ending : Ending) (shown : List Reply) : Type 0 where
  pub first : RunState
  pub mark : Mark
  pub turns : List Turn
  pub opened : (id : ℕ) → IsBlockId id → IsOpened (first.cells id)
  pub books : (id : ℕ) → IsBlockId id → BooksOpened (length course.shares) (first.cells id) (first.books id)
  pub choosing : ChoosesAnew course.shares 1 first.books first.choosing
  pub from_start : (start : Files) → HoldsImage course.told start → MakesCells (block_files start) first.cells
  pub metas_from_start : (start : Files) → HoldsImage course.told start → IsSoundBy (Fits (exactly first.metas)) start
  pub placed_from_start : (start : Files) → HoldsImage course.told start →
      (id : ℕ) → IsBlockId id → (replica : Replica) → first.cells id ≡ final replica → KeptOn (block_files start id) (first.books id) replica
  pub waiting_from_start : (start : Files) → HoldsImage course.told start →
      (id : ℕ) → IsBlockId id → first.cells id ≡ waiting → WaitsAs (view_of (record { settled = start; drafts = [] }) id) (first.books id)
  pub counts : IsLater course.entry mark
  pub follows : (trust : Trust) → IsKnown (BeginsSound course.told) trust course.told → Follows trust Faulty first mark turns
  pub at_exit : EndsAt (NextReopens course.input (turn_lines turns)) ending (last_mark mark turns) course.exit
  pub read : IfSome course.input (λ input. Reads input (turn_lines turns) ending)
  pub shows : Shows (turn_replies turns) ending shown
  pub of_lines : IsOfLines ending
  pub images : (start : Files) → HoldsImage course.told start → AllowedSince since course.entry.moment first turns
  pub images_opening : (start : Files) → HoldsImage course.told start → ReadsAlikeUpTo since course.entry mark start
  pub images_each : AllowedByEach since mark first turns
  pub images_at_exit : (image : Files) → can_leave image → AllowsImage (last_state first turns).cells image
  pub whole_at_exit : (image : Files) → can_leave image → OneWhole image
  pub whole : (image : Files) → since mark.moment image → OneWhole image
  pub sound : (start : Files) → HoldsImage course.told start → IsSound start → (image : Files) → since course.entry.moment image → IsSound image

-- a run stops before the opening is done, or runs the lines
abbrev pub Goes : (Faulty : ℕ → ℕ → Type 0) (since : ℕ → Files → Type 0) (can_leave : Files → Type 0) → Course → Ending → List Reply → Type 0
Goes Faulty since can_leave course ending shown = StopsUnopened since course ending shown ⊎ RunsLines Faulty since can_leave course ending shown

-- a run up to its last line
pub record RunsPool (Faulty : ℕ → ℕ → Type 0) (since : ℕ → Files → Type 0) (can_leave : Files → Type 0) (course : Course) (taken taken' : Option (List ℕ)) (ending : Ending) : Type 0 where
  pub shown : List Reply
  pub goes : Goes Faulty since can_leave course ending shown
  pub written : Writes (status_of ending) taken taken' (text_of shown)

-- A run: its replies are written, and the last line of its ending, and it has the ending's status.
pub record Runs (Faulty : ℕ → ℕ → Type 0) (since : ℕ → Files → Type 0) (can_leave : Files → Type 0) (course : Course) (taken taken' : Option (List ℕ)) (status : ℕ) : Type 0 where
  pub ending : Ending
  pub shown : List Reply
  pub goes : Goes Faulty since can_leave course ending shown
  pub ends : Ends ending taken taken' (text_of shown) status

module _ {D S T R : Type 0} (g : Ghosts D S T R) (d : drafts.Ghosts T S) (r : readers.Ghosts R) where
  -- what a run over these disks is given and leaves
  abbrev pub course_of : (shares : List ℕ) (input : Option (List ℕ)) → (old new : D) → Course
  course_of shares input old new = record { entry = mark_of g old; exit = mark_of g new; told = g.worlds old; shares = shares; input = input }

  -- a run over these disks up to its last line
  abbrev pub RunsPoolOver : (shares : List ℕ) (input taken taken' : Option (List ℕ)) → Ending → (old new : D) → Type 0
  RunsPoolOver shares input taken taken' ending old new =
      RunsPool (faulty_of d r) (g.left_since new) (CanLeave (g.worlds new)) (course_of shares input old new) taken taken' ending

  -- a run over these disks
  abbrev pub RunsOver : (shares : List ℕ) (input taken taken' : Option (List ℕ)) → (status : ℕ) → (old new : D) → Type 0
  RunsOver shares input taken taken' status old new =
      Runs (faulty_of d r) (g.left_since new) (CanLeave (g.worlds new)) (course_of shares input old new) taken taken' status

-- a list of one, before and after, and what holds of the two
pub record OfOne {D : Type 0} (old new : List D) (P : D → D → Type 0) : Type 0 where
  pub before : D
  pub after : D
  pub one_before : old ≡ before ∷ []
  pub one_after : new ≡ after ∷ []
  pub holds : P before after
