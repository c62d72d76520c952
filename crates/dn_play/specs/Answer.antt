-- What the answer to one line does, and what the lines of a session do.
use Rattle.std.specs.Prelude.{◌≡◌, ◌⊎◌, ℕ, false, ◌++◌, List, [], ◌∷◌, Option, Ok, Err, IfSome, ⊤}
use Rattle.std.specs.Io.KnownBytes.{Appends}
use Rattle.disk_model.specs.declared.disks.PoolDisks.{Ghosts}
use Rattle.disk_model.specs.declared.disks.Draft as drafts
use Rattle.disk_model.specs.declared.disks.SealedDraft as sealed
use Rattle.disk_model.specs.declared.disks.Reader as readers
use Rattle.disk_model.specs.Worlds.{World}
use Rattle.disk_model.specs.Causes.{Rose}
use Rattle.pool_open.specs.declared.opening.ReopenFault.{ReopenFault}
use Rattle.pool_open.specs.declared.opening.ReopenFault.TheVariants.{Failed, Memory as NoRoom}
use Rattle.script_lang.specs.declared.LineFault.TheVariants.{Bad}
use Rattle.script_lang.specs.declared.line.Line.{Line}
use Rattle.script_lang.specs.declared.line.Line.TheVariants.{Node}
use Rattle.script_lang.specs.declared.line.NodeLine.TheVariants.{Reopen}
use Rattle.script_lang.specs.declared.reply.Reply.{Reply}
use Rattle.script_lang.specs.Script.{line_of}
use Rattle.run_end.specs.declared.ending.Ending.{Ending}
use Rattle.run_end.specs.declared.ending.Ending.TheVariants.{Usage, SinkFault, NoMemory, Outside, OpenFault, Later, NotCarriedOut}
use Rattle.run_end.specs.Ending.{status_of}
use Rattle.run_end.specs.Closing.{Writes}
use Rattle.run_model.specs.State.{RunState, Turn, turn_lines, turn_replies, last_state, last_mark}
use Rattle.run_model.specs.Commands.{Trust}
use Rattle.run_model.specs.Lines.{Follows}
use Rattle.run_model.specs.Images.{LinesCrashSafe}
use Rattle.disk_model.specs.Files.{Files}
use Rattle.disk_model.specs.Marks.{Mark, IsLater, faulty_of, mark_of}
use Rattle.map_model.specs.Cells.{Cells}
use Rattle.run_model.specs.Carrying.{IsKnown, LeavesAllowed, AnyCells}
use Rattle.run_session.specs.declared.session.Session.{Session}
use Rattle.run_session.specs.Standing.{SoundFor, SessionStands}
use Rattle.run_model.specs.Asking.{is_blank, is_carried}
use Rattle.run_model.specs.Script.{Script, script_after, prepend}
use Rattle.dn_play.specs.Endings.{Reads, FirstCommands, Shows, text_of}

-- the line's command, if it has one, was carried out, and its reply written
pub record Answered (Faulty : ℕ → ℕ → Type 0) (told : Option (List World)) (state : RunState) (before after : Mark) (taken taken' : Option (List ℕ)) (text : List ℕ)
    (StandsFor : RunState → Type 0) (Sound SoundNow : Cells → Type 0) (past since : ℕ → Files → Type 0) : Type 0 where
  pub turns : List Turn
  pub says : (number : ℕ) (rest : Script) → script_after number (line_of text) rest ≡ prepend (turn_lines turns) rest
  pub follows : (trust : Trust) → IsKnown (Sound state.cells) trust told → Follows trust Faulty state before turns
  pub stands : StandsFor (last_state state turns)
  pub at_mark : last_mark before turns ≡ after
  pub crash : LinesCrashSafe before state turns Sound SoundNow past since
  pub written : Appends taken taken' (text_of (turn_replies turns))

-- these are first commands of the line and those behind it
abbrev pub FirstOfLine : ℕ → List ℕ → List Line → Type 0
FirstOfLine number text commands = (rest : Script) → (others : List Line) × ((script_after number (line_of text) rest).commands ≡ commands ++ others)

-- How the counts at the end follow those after the last line that was answered: they are the same, but where an opening
-- again was begun and not done. `Reopens` says that the next line asks for one.
abbrev pub EndsAt : (Reopens : Type 0) → Ending → Mark → Mark → Type 0
EndsAt Reopens NoMemory last end = (last ≡ end) ⊎ (Reopens × IsLater last end)
EndsAt Reopens OpenFault last end = IsLater last end × Rose last.faults end.faults
EndsAt Reopens ending last end = last ≡ end

-- the command behind these asks for the pool to be opened again
abbrev pub NextReopens : Option (List ℕ) → List Line → Type 0
NextReopens input commands = IfSome input (λ bytes. FirstCommands bytes (commands ++ Node Reopen ∷ []))

-- the line asks for the pool to be opened again
abbrev pub SaysReopen : List ℕ → List Line → Type 0
SaysReopen text commands = (commands ≡ []) × (line_of text ≡ Ok (Node Reopen))

-- how a session ends whose pool was not opened again
abbrev pub reopen_ending : ReopenFault → Ending
reopen_ending Failed = OpenFault
reopen_ending NoRoom = NoMemory

-- the line is in the language, and isn't carried out yet
abbrev pub SaysLater : List ℕ → Type 0
SaysLater text = (line : Line) × (line_of text ≡ Ok line) × (is_blank line ≡ false) × (is_carried line ≡ false)

-- what a line says that was not answered
abbrev pub SaysUpTo : ℕ → List ℕ → List Line → Ending → Type 0
SaysUpTo number text commands SinkFault = FirstOfLine number text commands
SaysUpTo number text commands NoMemory = FirstOfLine number text commands
SaysUpTo number text commands (Outside line column) = (commands ≡ []) × (line ≡ number) × (line_of text ≡ Err (Bad column))
SaysUpTo number text commands OpenFault = SaysReopen text commands
SaysUpTo number text commands (Later line) = (commands ≡ []) × (line ≡ number) × SaysLater text
SaysUpTo number text commands ending = ⊥

-- the line was not answered, or not wholly
pub record Unanswered (Faulty : ℕ → ℕ → Type 0) (told : Option (List World)) (state : RunState) (before after : Mark) (taken taken' : Option (List ℕ)) (number : ℕ) (text : List ℕ)
    (ending : Ending) (StandsFor : RunState → Type 0) (Sound SoundNow : Cells → Type 0) (past since : ℕ → Files → Type 0) : Type 0 where
  pub turns : List Turn
  pub shown : List Reply
  pub says : SaysUpTo number text (turn_lines turns) ending
  pub follows : (trust : Trust) → IsKnown (Sound state.cells) trust told → Follows trust Faulty state before turns
  pub stands : StandsFor (last_state state turns)
  pub at_mark : EndsAt (SaysReopen text (turn_lines turns)) ending (last_mark before turns) after
  pub crash : LinesCrashSafe before state turns Sound SoundNow past since
  pub shows : Shows (turn_replies turns) ending shown
  pub written : Writes (status_of ending) taken taken' (text_of shown)

-- The lines of a session up to its ending: they follow one another, their replies are written, and they are those of
-- the input.
pub record Played (Faulty : ℕ → ℕ → Type 0) (told : Option (List World)) (state : RunState) (before after : Mark) (input taken taken' : Option (List ℕ)) (ending : Ending)
    (StandsFor : RunState → Type 0) (Sound SoundNow : Cells → Type 0) (past since : ℕ → Files → Type 0) : Type 0 where
  pub turns : List Turn
  pub shown : List Reply
  pub follows : (trust : Trust) → IsKnown (Sound state.cells) trust told → Follows trust Faulty state before turns
  pub stands : StandsFor (last_state state turns)
  pub at_mark : EndsAt (NextReopens input (turn_lines turns)) ending (last_mark before turns) after
  pub crash : LinesCrashSafe before state turns Sound SoundNow past since
  pub read : IfSome input (λ bytes. Reads bytes (turn_lines turns) ending)
  pub shows : Shows (turn_replies turns) ending shown
  pub written : Writes (status_of ending) taken taken' (text_of shown)

-- how the lines of a session may end
abbrev pub IsOfLines : Ending → Type 0
IsOfLines Usage = ⊥
IsOfLines NotCarriedOut = ⊥
IsOfLines ending = ⊤

module _ {D S T R : Type 0} {g : Ghosts D S T R} {d : drafts.Ghosts T S} {s : sealed.Ghosts S} {r : readers.Ghosts R} where
  -- a session answered a line of this text, and the sink took the reply
  abbrev pub SessionAnswers : RunState → (text : List ℕ) → (taken taken' : Option (List ℕ)) → (old new : Session D S T R g d s r) → Type 0
  SessionAnswers state text taken taken' old new =
      Answered (faulty_of d r) (g.worlds old.pool.disks) state (mark_of g old.pool.disks) (mark_of g new.pool.disks) taken taken' text
      (SessionStands new) (SoundFor old) (SoundFor new) (g.left_since old.pool.disks) (g.left_since new.pool.disks)

  -- a session ended so at the line of this number and text
  abbrev pub SessionStops : RunState → (number : ℕ) (text : List ℕ) → (taken taken' : Option (List ℕ)) → Ending → (old new : Session D S T R g d s r) → Type 0
  SessionStops state number text taken taken' ending old new =
      Unanswered (faulty_of d r) (g.worlds old.pool.disks) state (mark_of g old.pool.disks) (mark_of g new.pool.disks) taken taken' number text ending
      (LeavesAllowed (g.worlds new.pool.disks)) (SoundFor old) AnyCells (g.left_since old.pool.disks) (g.left_since new.pool.disks)

  -- a session carried the lines of the input out, up to its ending
  abbrev pub SessionPlays : RunState → (input taken taken' : Option (List ℕ)) → Ending → (old new : Session D S T R g d s r) → Type 0
  SessionPlays state input taken taken' ending old new =
      Played (faulty_of d r) (g.worlds old.pool.disks) state (mark_of g old.pool.disks) (mark_of g new.pool.disks) input taken taken' ending
      (LeavesAllowed (g.worlds new.pool.disks)) (SoundFor old) AnyCells (g.left_since old.pool.disks) (g.left_since new.pool.disks)
