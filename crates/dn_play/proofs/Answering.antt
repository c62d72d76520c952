-- What the answer to a line shows.
use Rattle.std.proofs.Common.{◌≡◌, true, false, ℕ, ◌⊎◌, inl, inr, List, [], ◌∷◌, refl, ap, sym, ◌∙◌, subst, arith, Option, Result, Ok, Err}
use Rattle.std.proofs.lemmas.List.{append-nil}
use Rattle.std.specs.Io.KnownBytes.{Appends}
use Rattle.disk_model.specs.Worlds.{World}
use Rattle.line_io.specs.Written.{AppendsFront}
use Rattle.line_io.proofs.Appending.{appends_nothing}
use Rattle.script_lang.specs.declared.LineFault.{LineFault}
use Rattle.script_lang.specs.declared.LineFault.TheVariants.{Bad, Memory}
use Rattle.script_lang.specs.declared.line.Line.{Line}
use Rattle.script_lang.specs.declared.line.Line.TheVariants.{Blank, Node}
use Rattle.script_lang.specs.declared.line.NodeLine.TheVariants.{Reopen}
use Rattle.script_lang.specs.declared.reply.Reply.{Reply}
use Rattle.script_lang.specs.Reply.{reply_line}
use Rattle.script_lang.specs.Script.{line_of}
use Rattle.run_end.specs.declared.ending.Ending.TheVariants.{SinkFault, NoMemory, Outside, Later}
use Rattle.run_model.specs.State.{RunState, Turn, last_state}
use Rattle.run_model.specs.Commands.{Trust}
use Rattle.run_model.specs.Lines.{Follows}
use Rattle.run_model.specs.Carrying.{IsKnown, LineCarried, LeavesAllowed, AnyCells}
use Rattle.run_model.specs.Asking.{is_blank, is_carried}
use Rattle.run_model.specs.Script.{Script, script_after, goes_on, prepend}
use Rattle.disk_model.specs.Files.{Files}
use Rattle.disk_model.specs.Told.{CanLeave}
use Rattle.disk_model.specs.Causes.{Rose}
use Rattle.disk_model.specs.Moments.{Passes}
use Rattle.disk_model.specs.Marks.{Mark, IsLater}
use Rattle.disk_model.proofs.GoingOn.{passed_none}
use Rattle.pool_open.specs.declared.opening.ReopenFault.{ReopenFault}
use Rattle.pool_open.specs.declared.opening.ReopenFault.TheVariants.{Failed, Memory as NoRoom}
use Rattle.run_end.specs.declared.ending.Ending.{Ending}
use Rattle.map_model.specs.Cells.{Cells}
use Rattle.run_model.specs.Images.{AllowedFrom, StaysCrashSafe, LinesCrashSafe}
use Rattle.dn_play.specs.Answer.{Answered, Unanswered, FirstOfLine, SaysLater, reopen_ending}

-- a line that is no blank
pub not_blank : (line : Line) → (line ≡ Blank → ⊥) → is_blank line ≡ false
not_blank Blank apart = absurd (apart refl)
not_blank line apart = refl

-- a command stands before those behind it
command_says : (number : ℕ) (line : Line) → is_blank line ≡ false → is_carried line ≡ true → (rest : Script) → goes_on number line rest ≡ prepend (line ∷ []) rest
command_says number line some is rest = rw some (rw is refl)

-- an answer that is not for want of memory is what the text says
pub told_ok : (text : List ℕ) (line : Line) → (Ok line ≡ Err Memory) ⊎ (Ok line ≡ line_of text) → line_of text ≡ Ok line
told_ok text line h = elim h [ inl e ↦ cc | inr e ↦ sym e ]

pub told_bad : (text : List ℕ) (fault : LineFault) (column : ℕ) → fault ≡ Bad column → (◌≡◌ {A = Result Line LineFault} (Err fault) (Err Memory)) ⊎ (Err fault ≡ line_of text) → line_of text ≡ Err (Bad column)
told_bad text fault column is h = elim h [ inl e ↦ absurd cc | inr e ↦ sym e ∙ ap Err is ]

-- where no line was carried out
pub no_lines : {before : Mark} {state : RunState} {Sound : Cells → Type 0} {past : ℕ → Files → Type 0} → AllowedFrom past before state → LinesCrashSafe before state [] Sound Sound past past
no_lines now = record { passes = passed_none _ _; each = now; sound = λ sound. sound; sound_images = λ sound t image s. inl s }

-- where nothing happened
pub stays_same : {cells : Cells} {Sound : Cells → Type 0} {past : ℕ → Files → Type 0} → StaysCrashSafe cells Sound past past
stays_same = record { images = λ t image s. inl s; sound_images = λ sound t image s. inl s; whole = λ t image s. inl s }

module _ {Faulty : ℕ → ℕ → Type 0} {told : Option (List World)} {state : RunState} {before : Mark} {StandsFor : RunState → Type 0} {Sound : Cells → Type 0} {past : ℕ → Files → Type 0}
    (stands : StandsFor state) (now : AllowedFrom past before state) where
  -- a blank line
  pub answered_blank : (taken : Option (List ℕ)) (text : List ℕ) → line_of text ≡ Ok Blank → Answered Faulty told state before before taken taken text StandsFor Sound Sound past past
  answered_blank taken text e = record {
    turns = [];
    says = λ number rest. ap (λ r. script_after number r rest) e;
    follows = λ trust known. tt;
    stands = stands;
    at_mark = refl;
    crash = no_lines now;
    written = appends_nothing taken;
  }

  -- a line outside the language
  pub unanswered_outside : (taken : Option (List ℕ)) (number : ℕ) (text : List ℕ) (column : ℕ) → line_of text ≡ Err (Bad column) → Unanswered Faulty told state before before taken taken number text (Outside number column) StandsFor Sound Sound past past
  unanswered_outside taken number text column e = record {
    turns = [];
    shown = [];
    says = (refl, refl, e);
    follows = λ trust known. tt;
    stands = stands;
    at_mark = refl;
    crash = no_lines now;
    shows = refl;
    written = appends_nothing taken;
  }

  -- a line that isn't carried out yet
  pub unanswered_later : (taken : Option (List ℕ)) (number : ℕ) (text : List ℕ) → SaysLater text → Unanswered Faulty told state before before taken taken number text (Later number) StandsFor Sound Sound past past
  unanswered_later taken number text e = record {
    turns = [];
    shown = [];
    says = (refl, refl, e);
    follows = λ trust known. tt;
    stands = stands;
    at_mark = refl;
    crash = no_lines now;
    shows = refl;
    written = appends_nothing taken;
  }

  -- no memory for the line
  pub unanswered_unread : (taken : Option (List ℕ)) (number : ℕ) (text : List ℕ) → Unanswered Faulty told state before before taken taken number text NoMemory StandsFor Sound Sound past past
  unanswered_unread taken number text = record {
    turns = [];
    shown = [];
    says = λ rest. ((script_after number (line_of text) rest).commands, refl);
    follows = λ trust known. tt;
    stands = stands;
    at_mark = inl refl;
    crash = no_lines now;
    shows = ([], refl, omega arith);
    written = appends_nothing taken;
  }

module _ {Faulty : ℕ → ℕ → Type 0} {told : Option (List World)} {state : RunState} {before : Mark} {Sound : Cells → Type 0} {past : ℕ → Files → Type 0}
    (now : AllowedFrom past before state) where
  module _ {after : Mark} {StandsThen : RunState → Type 0} {SoundThen : Cells → Type 0} {since : ℕ → Files → Type 0} (taken taken' : Option (List ℕ)) (number : ℕ) (text : List ℕ) (line : Line) (reply : Reply)
      (e : line_of text ≡ Ok line) (some : is_blank line ≡ false) (is : is_carried line ≡ true) (counts : IsLater before after) (passes : Passes before.moment past since) (carried : LineCarried Faulty told state before line reply after StandsThen Sound SoundThen past since)
      (then : AllowedFrom since after carried.new) where
    abbrev turn : Turn
    turn = record { line = line; reply = reply; state = carried.new; mark = after }

    follows : (trust : Trust) → IsKnown (Sound state.cells) trust told → Follows trust Faulty state before (turn ∷ [])
    follows trust known = (record { counts = counts; does = carried.does trust known }, tt)

    -- what a crash can leave while it is carried out
    safe : LinesCrashSafe before state (turn ∷ []) Sound SoundThen past since
    safe = record {
      passes = passes;
      each = (
        λ image s. inl (
          elim (carried.crash.images before.moment image s) [ inl earlier ↦ inl (now image earlier).0 | inr allows ↦ allows ],
          elim (carried.crash.whole before.moment image s) [ inl earlier ↦ (now image earlier).1 | inr whole ↦ whole ],
        ),
        then,
      );
      sound = carried.crash.sound;
      sound_images = carried.crash.sound_images;
    }

    first_command : FirstOfLine number text (line ∷ [])
    first_command = λ rest. (rest.commands, ap (λ s. s.commands) (ap (λ r. script_after number r rest) e ∙ command_says number line some is rest))

    -- a command that is carried out, with its reply written
    pub answered_command : Appends taken taken' (reply_line reply) → Answered Faulty told state before after taken taken' text StandsThen Sound SoundThen past since
    answered_command written = record {
      turns = turn ∷ [];
      says = λ n rest. ap (λ r. script_after n r rest) e ∙ command_says n line some is rest;
      follows = follows;
      stands = carried.stands;
      at_mark = refl;
      crash = safe;
      written = subst (Appends taken taken') (sym (append-nil (reply_line reply))) written;
    }

    -- no memory for the reply
    pub unanswered_unshown : Unanswered Faulty told state before after taken taken number text NoMemory StandsThen Sound SoundThen past since
    unanswered_unshown = record {
      turns = turn ∷ [];
      shown = [];
      says = first_command;
      follows = follows;
      stands = carried.stands;
      at_mark = inl refl;
      crash = safe;
      shows = (reply ∷ [], refl, omega arith);
      written = appends_nothing taken;
    }

    -- a reply that is not wholly written
    pub unanswered_cut : AppendsFront taken taken' (reply_line reply) → Unanswered Faulty told state before after taken taken' number text SinkFault StandsThen Sound SoundThen past since
    unanswered_cut written = record {
      turns = turn ∷ [];
      shown = reply ∷ [];
      says = first_command;
      follows = follows;
      stands = carried.stands;
      at_mark = refl;
      crash = safe;
      shows = refl;
      written = subst (AppendsFront taken taken') (sym (append-nil (reply_line reply))) written;
    }

-- less is said of the cells then
pub lines_less : {before : Mark} {state : RunState} {turns : List Turn} {Sound SoundNow : Cells → Type 0} {past since : ℕ → Files → Type 0} → LinesCrashSafe before state turns Sound SoundNow past since →
    LinesCrashSafe before state turns Sound AnyCells past since
lines_less crash = record { passes = crash.passes; each = crash.each; sound = λ sound. tt; sound_images = crash.sound_images }

-- less is said of where the session stands then
pub unanswered_less : {Faulty : ℕ → ℕ → Type 0} {told : Option (List World)} {state : RunState} {before after : Mark} {taken taken' : Option (List ℕ)} {number : ℕ} {text : List ℕ} {ending : Ending}
    {StandsFor Less : RunState → Type 0} {Sound SoundNow : Cells → Type 0} {past since : ℕ → Files → Type 0} → Unanswered Faulty told state before after taken taken' number text ending StandsFor Sound SoundNow past since →
    ((s : RunState) → StandsFor s → Less s) → Unanswered Faulty told state before after taken taken' number text ending Less Sound AnyCells past since
unanswered_less {state = state} u weaken = record {
  turns = u.turns;
  shown = u.shown;
  says = u.says;
  follows = u.follows;
  stands = weaken (last_state state u.turns) u.stands;
  at_mark = u.at_mark;
  crash = lines_less u.crash;
  shows = u.shows;
  written = u.written;
}

-- an opening again that wasn't done
module _ {now : Option (List World)} (state : RunState) {before after : Mark} {Sound : Cells → Type 0} {past since : ℕ → Files → Type 0}
    (counts : IsLater before after) (passes : Passes before.moment past since) (first : AllowedFrom past before state) (stays : StaysCrashSafe state.cells Sound past since)
    (leaves : (image : Files) → CanLeave now image → since before.moment image) where
  -- it allows what the cells before it allow
  still : AllowedFrom since before state
  still image s = (
    elim (stays.images before.moment image s) [ inl earlier ↦ (first image earlier).0 | inr allows ↦ allows ],
    elim (stays.whole before.moment image s) [ inl earlier ↦ (first image earlier).1 | inr whole ↦ whole ],
  )

  stayed : LeavesAllowed now state
  stayed image left = still image (leaves image left)

  crashed : LinesCrashSafe before state [] Sound AnyCells past since
  crashed = record { passes = passes; each = still; sound = λ sound. tt; sound_images = stays.sound_images }

  pub unanswered_reopen : {told : Option (List World)} (Faulty : ℕ → ℕ → Type 0) (taken : Option (List ℕ)) (number : ℕ) (text : List ℕ) (fault : ReopenFault) (ending : Ending) → ending ≡ reopen_ending fault →
      line_of text ≡ Ok (Node Reopen) → (fault ≡ Failed → Rose before.faults after.faults) → Unanswered Faulty told state before after taken taken number text ending (LeavesAllowed now) Sound AnyCells past since
  unanswered_reopen {told} Faulty taken number text fault ending is e rose =
      subst (λ (x : Ending). Unanswered Faulty told state before after taken taken number text x (LeavesAllowed now) Sound AnyCells past since) (sym is) (by_fault fault rose)
    where
      by_fault : (f : ReopenFault) → (f ≡ Failed → Rose before.faults after.faults) → Unanswered Faulty told state before after taken taken number text (reopen_ending f) (LeavesAllowed now) Sound AnyCells past since
      by_fault Failed rose = record {
        turns = [];
        shown = [];
        says = (refl, e);
        follows = λ trust known. tt;
        stands = stayed;
        at_mark = (counts, rose refl);
        crash = crashed;
        shows = refl;
        written = appends_nothing taken;
      }
      by_fault NoRoom rose = record {
        turns = [];
        shown = [];
        says = λ rest. ((script_after number (line_of text) rest).commands, refl);
        follows = λ trust known. tt;
        stands = stayed;
        at_mark = inr ((refl, e), counts);
        crash = crashed;
        shows = ([], refl, omega arith);
        written = appends_nothing taken;
      }
