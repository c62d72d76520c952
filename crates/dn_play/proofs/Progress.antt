-- How far a session has come, and how a line takes it on.
use Rattle.std.proofs.Common.{◌≡◌, inl, inr, false, ℕ, ◌+◌, List, [], ◌∷◌, ◌++◌, length, refl, ap, sym, ◌∙◌, subst, arith, Option, Some, None, IfSome, IsSome}
use Rattle.std.proofs.lemmas.List.{append-nil, append_assoc}
use Rattle.std.specs.Io.KnownBytes.{Appends}
use Rattle.disk_model.specs.Worlds.{World}
use Rattle.line_io.proofs.Appending.{appends_nothing, appends_append}
use Rattle.line_io.specs.Lines.{terminated_lines, TakesLine, FirstPassesLimit, OfUnread}
use Rattle.line_io.specs.declared.lines.ReadFault.{ReadFault}
use Rattle.line_io.specs.declared.lines.ReadFault.TheVariants.{Source, Limit as LineLimit, Memory}
use Rattle.script_lang.specs.declared.line.Line.{Line}
use Rattle.script_lang.specs.declared.line.Line.TheVariants.{Node}
use Rattle.script_lang.specs.declared.line.NodeLine.TheVariants.{Reopen}
use Rattle.script_lang.specs.declared.reply.Reply.{Reply}
use Rattle.script_lang.specs.Reply.{reply_line}
use Rattle.script_lang.specs.Script.{line_of}
use Rattle.run_end.specs.declared.ending.Ending.{Ending}
use Rattle.run_end.specs.declared.ending.Ending.TheVariants.{Complete, SourceFault, SinkFault, NoMemory, Outside, OpenFault, Later}
use Rattle.run_end.specs.Ending.{status_of, ending_at}
use Rattle.run_end.specs.Closing.{Writes}
use Rattle.run_end.proofs.LastLine.{writes_then}
use Rattle.run_model.specs.State.{RunState, Turn, turn_lines, turn_replies, last_state, last_mark}
use Rattle.run_model.specs.Commands.{Trust, any_disks, telling_disks, sound_disks}
use Rattle.run_model.specs.Lines.{Follows}
use Rattle.run_model.specs.Carrying.{IsKnown}
use Rattle.run_model.specs.Asking.{is_blank, is_carried}
use Rattle.run_model.specs.Script.{Script, AtEnd, AtOutside, AtLimit, AtLater, stops, script_after, script_from, script_of, prepend, goes_on}
use Rattle.dn_play.specs.Endings.{Shows, text_of, Reads, FirstCommands, AllCommands}
use Rattle.dn_play.specs.Answer.{Answered, Unanswered, FirstOfLine, SaysUpTo, SaysReopen, NextReopens, EndsAt, Played, IsOfLines}
use Rattle.disk_model.specs.Files.{Files}
use Rattle.disk_model.specs.Marks.{Mark}
use Rattle.map_model.specs.Cells.{Cells}
use Rattle.run_model.specs.Images.{AllowedFrom, LinesCrashSafe}
use Rattle.dn_play.proofs.Crashes.{crash_on}
use Rattle.run_model.specs.Carrying.{AnyCells}
use Rattle.dn_play.proofs.Answering.{no_lines, lines_less}

-- the lines so far, what is written, and that these lines and the script of what is unread are the whole script
pub record Progress (Faulty : ℕ → ℕ → Type 0) (told : Option (List World)) (state : RunState) (before now : Mark) (input left : Option (List ℕ)) (pending : List ℕ) (number count : ℕ)
    (taken taken' : Option (List ℕ)) (StandsFor : RunState → Type 0) (Sound SoundNow : Cells → Type 0) (past since : ℕ → Files → Type 0) : Type 0 where
  pub turns : List Turn
  pub follows : (trust : Trust) → IsKnown (Sound state.cells) trust told → Follows trust Faulty state before turns
  pub stands : StandsFor (last_state state turns)
  pub at_mark : last_mark before turns ≡ now
  pub crash : LinesCrashSafe before state turns Sound SoundNow past since
  pub written : Appends taken taken' (text_of (turn_replies turns))
  pub read : OfUnread (λ unread rest. script_of unread ≡ prepend (turn_lines turns) (script_from number count (terminated_lines rest))) [] input pending left

-- lines behind lines
follows_append : (trust : Trust) (Faulty : ℕ → ℕ → Type 0) (state : RunState) (mark : Mark) (turns more : List Turn) →
    Follows trust Faulty state mark turns → Follows trust Faulty (last_state state turns) (last_mark mark turns) more → Follows trust Faulty state mark (turns ++ more)
follows_append trust Faulty state mark [] more h k = k
follows_append trust Faulty state mark (turn ∷ turns) more h k = (h.0, follows_append trust Faulty turn.state turn.mark turns more h.1 k)

last_state-append : (state : RunState) (turns more : List Turn) → last_state state (turns ++ more) ≡ last_state (last_state state turns) more
last_state-append state [] more = refl
last_state-append state (turn ∷ turns) more = last_state-append turn.state turns more

last_mark-append : (mark : Mark) (turns more : List Turn) → last_mark mark (turns ++ more) ≡ last_mark (last_mark mark turns) more
last_mark-append mark [] more = refl
last_mark-append mark (turn ∷ turns) more = last_mark-append turn.mark turns more

turn_lines-append : (turns more : List Turn) → turn_lines (turns ++ more) ≡ turn_lines turns ++ turn_lines more
turn_lines-append [] more = refl
turn_lines-append (turn ∷ turns) more = ap (λ p. turn.line ∷ p) (turn_lines-append turns more)

turn_replies-append : (turns more : List Turn) → turn_replies (turns ++ more) ≡ turn_replies turns ++ turn_replies more
turn_replies-append [] more = refl
turn_replies-append (turn ∷ turns) more = ap (λ p. turn.reply ∷ p) (turn_replies-append turns more)

-- what is known of the disks stays known
pub known_on : {Sound SoundNow : Type 0} (trust : Trust) (told now : Option (List World)) → (IsSome told → IsSome now) → (Sound → SoundNow) → IsKnown Sound trust told → IsKnown SoundNow trust now
known_on any_disks told now honest then known = tt
known_on telling_disks told now honest then known = honest known
known_on sound_disks told now honest then known = (honest known.0, then known.1)

text_of-append : (replies more : List Reply) → text_of (replies ++ more) ≡ text_of replies ++ text_of more
text_of-append [] more = refl
text_of-append (reply ∷ replies) more = ap (λ p. reply_line reply ++ p) (text_of-append replies more) ∙ sym (append_assoc (reply_line reply) (text_of replies) (text_of more))

-- the lines of replies behind those of others
appends_replies : (old mid new : Option (List ℕ)) (replies more : List Reply) → Appends old mid (text_of replies) → Appends mid new (text_of more) → Appends old new (text_of (replies ++ more))
appends_replies old mid new replies more h k = subst (Appends old new) (sym (text_of-append replies more)) (appends_append old mid new (text_of replies) (text_of more) h k)

-- commands behind commands
prepend-prepend : (commands others : List Line) (rest : Script) → prepend commands (prepend others rest) ≡ prepend (commands ++ others) rest
prepend-prepend commands others rest = ap (λ (p : List Line). record { commands = p; stop = rest.stop }) (sym (append_assoc commands others rest.commands))

-- two facts of what is unread, one after another
unread_chain : (P Q R : List ℕ → List ℕ → Type 0) (first pending pending' : List ℕ) (left left' left'' : Option (List ℕ)) → OfUnread P first left pending left' → OfUnread Q pending left' pending' left'' → ((u m r : List ℕ) → P u m → Q m r → R u r) → OfUnread R first left pending' left''
unread_chain P Q R first pending pending' None left' left'' h k f = tt
unread_chain P Q R first pending pending' (Some left) None left'' h k f = absurd h
unread_chain P Q R first pending pending' (Some left) (Some left') None h k f = absurd k
unread_chain P Q R first pending pending' (Some left) (Some left') (Some left'') h k f = f (first ++ left) (pending ++ left') (pending' ++ left'') h k

-- what two such facts show of the input
unread_both : (P Q : List ℕ → List ℕ → Type 0) (R : List ℕ → Type 0) (pending pending' : List ℕ) (input left left' : Option (List ℕ)) → OfUnread P [] input pending left → OfUnread Q pending left pending' left' → ((u m r : List ℕ) → P u m → Q m r → R u) → IfSome input R
unread_both P Q R pending pending' None left left' h k f = tt
unread_both P Q R pending pending' (Some input) None left' h k f = absurd h
unread_both P Q R pending pending' (Some input) (Some left) None h k f = absurd k
unread_both P Q R pending pending' (Some input) (Some left) (Some left') h k f = f input (pending ++ left) (pending' ++ left') h k

-- what one shows, with another of what was unread then
unread_one : (P : List ℕ → List ℕ → Type 0) (Q R : List ℕ → Type 0) (pending : List ℕ) (input left : Option (List ℕ)) → OfUnread P [] input pending left → IfSome left (λ l. Q (pending ++ l)) → ((u m : List ℕ) → P u m → Q m → R u) → IfSome input R
unread_one P Q R pending None left h k f = tt
unread_one P Q R pending (Some input) None h k f = absurd h
unread_one P Q R pending (Some input) (Some left) h k f = f input (pending ++ left) h k

no_more : (left : Option (List ℕ)) → IfSome left (λ l. Unit {0})
no_more None = tt
no_more (Some left) = tt

-- the script of what is unread, by its first line
script_by_line : (number count count' : ℕ) (unread text rest : List ℕ) → TakesLine count unread text count' rest → script_from number count (terminated_lines unread) ≡ script_after (number + 1) (line_of text) (script_from (number + 1) count' (terminated_lines rest))
unfolding script_from
script_by_line number count count' unread text rest t =
    ap (script_from number count) t.first ∙ rw t.within
    (ap (λ p. script_after (number + 1) (line_of p) (script_from (number + 1) (count + length t.line) (terminated_lines rest))) (sym t.text_is)
    ∙ ap (λ k. script_after (number + 1) (line_of text) (script_from (number + 1) k (terminated_lines rest))) (sym t.counted))

script_at_limit : (number count : ℕ) (unread : List ℕ) → FirstPassesLimit count unread → script_from number count (terminated_lines unread) ≡ stops (AtLimit (number + 1))
unfolding script_from
script_at_limit number count unread t = ap (script_from number count) t.first ∙ rw t.passes refl

-- what the commands so far are of the input
first_so_far : (input left : Option (List ℕ)) (pending : List ℕ) (number count : ℕ) (commands : List Line) → OfUnread (λ unread rest. script_of unread ≡ prepend commands (script_from number count (terminated_lines rest))) [] input pending left → IfSome input (λ bytes. FirstCommands bytes commands)
first_so_far input left pending number count commands h =
    unread_one (λ unread rest. script_of unread ≡ prepend commands (script_from number count (terminated_lines rest))) (λ _. Unit {0}) (λ bytes. FirstCommands bytes commands) pending input left h (no_more left)
    (λ u m e _. ((script_from number count (terminated_lines m)).commands, ap (λ s. s.commands) e))

nothing_so_far : (input : Option (List ℕ)) → IfSome input (λ bytes. FirstCommands bytes [])
nothing_so_far None = tt
nothing_so_far (Some bytes) = ((script_of bytes).commands, refl)

-- no line is left
at_end_of : (number count : ℕ) (unread : List ℕ) → unread ≡ [] → script_from number count (terminated_lines unread) ≡ stops AtEnd
unfolding script_from
at_end_of number count unread none = ap (λ p. script_from number count (terminated_lines p)) none

first_on : (input left left' : Option (List ℕ)) (pending pending' : List ℕ) (number count count' : ℕ) (text : List ℕ) (commands others : List Line) →
    OfUnread (λ unread rest. script_of unread ≡ prepend commands (script_from number count (terminated_lines rest))) [] input pending left → OfUnread (λ unread rest. TakesLine count unread text count' rest) pending left pending' left' →
    FirstOfLine (number + 1) text others → IfSome input (λ bytes. FirstCommands bytes (commands ++ others))
first_on input left left' pending pending' number count count' text commands others h t says =
    unread_both (λ unread rest. script_of unread ≡ prepend commands (script_from number count (terminated_lines rest))) (λ unread rest. TakesLine count unread text count' rest) (λ bytes. FirstCommands bytes (commands ++ others)) pending pending' input left left' h t
    (λ u m r e k. let f = says (script_from (number + 1) count' (terminated_lines r)) in
    (f.0, ap (λ s. s.commands) (e ∙ ap (prepend commands) (script_by_line number count count' m text r k)) ∙ ap (λ c. commands ++ c) f.1 ∙ sym (append_assoc commands others f.0)))

-- a script stops at a line that isn't carried out yet
later_stops : (number : ℕ) (line : Line) → (is_blank line ≡ false) × (is_carried line ≡ false) → (rest : Script) → goes_on number line rest ≡ stops (AtLater number)
later_stops number line is rest = rw is.0 (rw is.1 refl)

-- the next line asks for an opening again
reopen_on : (input left left' : Option (List ℕ)) (pending pending' : List ℕ) (number count count' : ℕ) (text : List ℕ) (commands others : List Line) →
    OfUnread (λ unread rest. script_of unread ≡ prepend commands (script_from number count (terminated_lines rest))) [] input pending left → OfUnread (λ unread rest. TakesLine count unread text count' rest) pending left pending' left' →
    SaysReopen text others → IfSome input (λ bytes. FirstCommands bytes ((commands ++ others) ++ Node Reopen ∷ []))
reopen_on input left left' pending pending' number count count' text commands others h t says =
    subst (λ (c : List Line). IfSome input (λ bytes. FirstCommands bytes (c ++ Node Reopen ∷ []))) (sym (ap (λ (o : List Line). commands ++ o) says.0 ∙ append-nil commands))
    (first_on input left left' pending pending' number count count' text commands (Node Reopen ∷ []) h t
    (λ rest. (rest.commands, ap (λ l. (script_after (number + 1) l rest).commands) says.1)))

reads_on : (input left left' : Option (List ℕ)) (pending pending' : List ℕ) (number count count' : ℕ) (text : List ℕ) (commands others : List Line) (ending : Ending) →
    OfUnread (λ unread rest. script_of unread ≡ prepend commands (script_from number count (terminated_lines rest))) [] input pending left → OfUnread (λ unread rest. TakesLine count unread text count' rest) pending left pending' left' →
    SaysUpTo (number + 1) text others ending → IfSome input (λ bytes. Reads bytes (commands ++ others) ending)
reads_on input left left' pending pending' number count count' text commands others OpenFault h t says = reopen_on input left left' pending pending' number count count' text commands others h t says
reads_on input left left' pending pending' number count count' text commands others SinkFault h t says = first_on input left left' pending pending' number count count' text commands others h t says
reads_on input left left' pending pending' number count count' text commands others NoMemory h t says = first_on input left left' pending pending' number count count' text commands others h t says
reads_on input left left' pending pending' number count count' text commands others (Outside line column) h t says =
    unread_both (λ unread rest. script_of unread ≡ prepend commands (script_from number count (terminated_lines rest))) (λ unread rest. TakesLine count unread text count' rest) (λ bytes. AllCommands bytes (commands ++ others) (AtOutside line column)) pending pending' input left left' h t
    (λ u m r e k. e ∙ ap (prepend commands) (script_by_line number count count' m text r k ∙ ap (λ l. script_after (number + 1) l (script_from (number + 1) count' (terminated_lines r))) says.2)
    ∙ ap (λ (c : List Line). record { commands = commands ++ c; stop = AtOutside (number + 1) column }) (sym says.0)
    ∙ ap (λ (n : ℕ). record { commands = commands ++ others; stop = AtOutside n column }) (sym says.1))
reads_on input left left' pending pending' number count count' text commands others (Later line) h t says =
    unread_both (λ unread rest. script_of unread ≡ prepend commands (script_from number count (terminated_lines rest))) (λ unread rest. TakesLine count unread text count' rest) (λ bytes. AllCommands bytes (commands ++ others) (AtLater line)) pending pending' input left left' h t
    (λ u m r e k. e ∙ ap (prepend commands) (script_by_line number count count' m text r k ∙ ap (λ l. script_after (number + 1) l (script_from (number + 1) count' (terminated_lines r))) says.2.1 ∙ later_stops (number + 1) says.2.0 (says.2.2, says.2.3) (script_from (number + 1) count' (terminated_lines r)))
    ∙ ap (λ (c : List Line). record { commands = commands ++ c; stop = AtLater (number + 1) }) (sym says.0)
    ∙ ap (λ (n : ℕ). record { commands = commands ++ others; stop = AtLater n }) (sym says.1))
reads_on input left left' pending pending' number count count' text commands others ending h t says = absurd says

shows_on : (replies more shown : List Reply) (ending : Ending) → Shows more ending shown → Shows (replies ++ more) ending (replies ++ shown)
shows_on replies more shown NoMemory h = (h.0, ap (λ p. replies ++ p) h.1 ∙ sym (append_assoc replies shown h.0), h.2)
shows_on replies more shown ending h = ap (λ p. replies ++ p) h

-- the lines of replies, and then of those that are written so
writes_on : (taken taken' taken'' : Option (List ℕ)) (replies shown : List Reply) (status : ℕ) → Appends taken taken' (text_of replies) → Writes status taken' taken'' (text_of shown) → Writes status taken taken'' (text_of (replies ++ shown))
writes_on taken taken' taken'' replies shown status h k = subst (Writes status taken taken'') (sym (text_of-append replies shown)) (writes_then status taken taken' taken'' (text_of replies) (text_of shown) h k)

-- a line is never answered by these
pub answered_complete : (number : ℕ) (text : List ℕ) (lines : List Line) (ending : Ending) → SaysUpTo number text lines ending → ending ≡ Complete → ⊥
answered_complete number text lines ending says e = subst (SaysUpTo number text lines) e says

pub answered_source : (number : ℕ) (text : List ℕ) (lines : List Line) (ending : Ending) → SaysUpTo number text lines ending → ending ≡ SourceFault → ⊥
answered_source number text lines ending says e = subst (SaysUpTo number text lines) e says

pub ends_lines : (fault : ReadFault) (line : ℕ) (ending : Ending) → ending ≡ ending_at fault line → IsOfLines ending
ends_lines Source line ending e = subst IsOfLines (sym e) tt
ends_lines LineLimit line ending e = subst IsOfLines (sym e) tt
ends_lines Memory line ending e = subst IsOfLines (sym e) tt

-- what is known of the next line at the end of one is known at the end of all
ends_on : {Here There : Type 0} → (Here → There) → (ending : Ending) (last end : Mark) → EndsAt Here ending last end → EndsAt There ending last end
ends_on then NoMemory last end h = elim h [ inl same ↦ inl same | inr next ↦ inr (then next.0, next.1) ]
ends_on then ending last end h = h

-- lines behind lines, from where these ended
all_follow : {Sound SoundNow : Type 0} (Faulty : ℕ → ℕ → Type 0) (told told_now : Option (List World)) (state : RunState) (before now : Mark) → (IsSome told → IsSome told_now) → (Sound → SoundNow) → (turns more : List Turn) → last_mark before turns ≡ now →
    ((trust : Trust) → IsKnown Sound trust told → Follows trust Faulty state before turns) → ((trust : Trust) → IsKnown SoundNow trust told_now → Follows trust Faulty (last_state state turns) now more) →
    (trust : Trust) → IsKnown Sound trust told → Follows trust Faulty state before (turns ++ more)
all_follow Faulty told told_now state before now honest then turns more at_mark so_far follows trust known = follows_append trust Faulty state before turns more (so_far trust known)
    (subst (λ m. Follows trust Faulty (last_state state turns) m more) (sym at_mark) (follows trust (known_on trust told told_now honest then known)))

module _ {Faulty : ℕ → ℕ → Type 0} {told : Option (List World)} {state : RunState} {before : Mark} {StandsFor : RunState → Type 0} {Sound : Cells → Type 0} {past : ℕ → Files → Type 0}
    (stands : StandsFor state) (from_now : AllowedFrom past before state) where
  -- nothing was read yet
  pub starts : (input : Option (List ℕ)) (pending : List ℕ) (count : ℕ) (taken : Option (List ℕ)) → pending ≡ [] → count ≡ 0 →
      Progress Faulty told state before before input input pending 0 count taken taken StandsFor Sound Sound past past
  starts input pending count taken none zero_count = record {
    turns = [];
    follows = λ trust known. tt;
    stands = stands;
    at_mark = refl;
    crash = no_lines from_now;
    written = appends_nothing taken;
    read = at_start input;
  }
    where
      at_start : (i : Option (List ℕ)) → OfUnread (λ unread rest. script_of unread ≡ prepend [] (script_from 0 count (terminated_lines rest))) [] i pending i
      at_start None = tt
      at_start (Some bytes) = ap (λ p. script_from 0 0 (terminated_lines (p ++ bytes))) (sym none) ∙ ap (λ k. script_from 0 k (terminated_lines (pending ++ bytes))) (sym zero_count)

  -- no memory before the first line
  pub played_nothing : (input taken : Option (List ℕ)) → Played Faulty told state before before input taken taken NoMemory StandsFor Sound Sound past past
  played_nothing input taken = record {
    turns = [];
    shown = [];
    follows = λ trust known. tt;
    stands = stands;
    at_mark = inl refl;
    crash = no_lines from_now;
    read = nothing_so_far input;
    shows = ([], refl, omega arith);
    written = appends_nothing taken;
  }

module _ {Faulty : ℕ → ℕ → Type 0} {told : Option (List World)} {state : RunState} {before : Mark} where
  module _ {now : Mark} {StandsFor : RunState → Type 0} {Sound SoundNow : Cells → Type 0} {past since : ℕ → Files → Type 0} (input left : Option (List ℕ)) (pending : List ℕ) (number count : ℕ) (taken taken' : Option (List ℕ))
      (p : Progress Faulty told state before now input left pending number count taken taken' StandsFor Sound SoundNow past since) where
    -- no line is left
    pub played_complete : (left' : Option (List ℕ)) (pending' : List ℕ) → OfUnread (λ unread rest. (unread ≡ []) × (rest ≡ [])) pending left pending' left' → Played Faulty told state before now input taken taken' Complete StandsFor Sound SoundNow past since
    played_complete left' pending' h = record {
      turns = p.turns;
      shown = turn_replies p.turns;
      follows = p.follows;
      stands = p.stands;
      at_mark = p.at_mark;
      crash = p.crash;
      read = unread_both (λ unread rest. script_of unread ≡ prepend (turn_lines p.turns) (script_from number count (terminated_lines rest))) (λ unread rest. (unread ≡ []) × (rest ≡ []))
          (λ bytes. AllCommands bytes (turn_lines p.turns) AtEnd) pending pending' input left left' p.read h
          (λ u m r e k. e ∙ ap (prepend (turn_lines p.turns)) (at_end_of number count m k.0) ∙ ap (λ (c : List Line). record { commands = c; stop = AtEnd }) (append-nil (turn_lines p.turns)));
      shows = refl;
      written = p.written;
    }

    -- a line that can't be read
    pub played_fault : (fault : ReadFault) → (fault ≡ LineLimit → IfSome left (λ l. FirstPassesLimit count (pending ++ l))) → Played Faulty told state before now input taken taken' (ending_at fault (number + 1)) StandsFor Sound SoundNow past since
    played_fault Source h = record {
      turns = p.turns;
      shown = turn_replies p.turns;
      follows = p.follows;
      stands = p.stands;
      at_mark = p.at_mark;
      crash = p.crash;
      read = first_so_far input left pending number count (turn_lines p.turns) p.read;
      shows = refl;
      written = p.written;
    }
    played_fault LineLimit h = record {
      turns = p.turns;
      shown = turn_replies p.turns;
      follows = p.follows;
      stands = p.stands;
      at_mark = p.at_mark;
      crash = p.crash;
      read = unread_one (λ unread rest. script_of unread ≡ prepend (turn_lines p.turns) (script_from number count (terminated_lines rest))) (FirstPassesLimit count)
          (λ bytes. AllCommands bytes (turn_lines p.turns) (AtLimit (number + 1))) pending input left p.read (h refl)
          (λ u m e k. e ∙ ap (prepend (turn_lines p.turns)) (script_at_limit number count m k) ∙ ap (λ (c : List Line). record { commands = c; stop = AtLimit (number + 1) }) (append-nil (turn_lines p.turns)));
      shows = refl;
      written = p.written;
    }
    played_fault Memory h = record {
      turns = p.turns;
      shown = turn_replies p.turns;
      follows = p.follows;
      stands = p.stands;
      at_mark = inl p.at_mark;
      crash = p.crash;
      read = first_so_far input left pending number count (turn_lines p.turns) p.read;
      shows = ([], sym (append-nil (turn_replies p.turns)), omega arith);
      written = p.written;
    }

    module _ (told_now : Option (List World)) (honest : IsSome told → IsSome told_now) {after : Mark} (left' : Option (List ℕ)) (pending' : List ℕ) (count' : ℕ) (taken'' : Option (List ℕ)) (text shown_text : List ℕ)
        (same_text : shown_text ≡ text) (t : OfUnread (λ unread rest. TakesLine count unread text count' rest) pending left pending' left') where
      marks_on : (more : List Turn) → last_mark now more ≡ after → last_mark before (p.turns ++ more) ≡ after
      marks_on more at = last_mark-append before p.turns more ∙ ap (λ m. last_mark m more) p.at_mark ∙ at

      -- a line that is answered
      pub goes_on_by : {StandsThen : RunState → Type 0} {SoundThen : Cells → Type 0} {then : ℕ → Files → Type 0} → Answered Faulty told_now (last_state state p.turns) now after taken' taken'' shown_text StandsThen SoundNow SoundThen since then →
          Progress Faulty told state before after input left' pending' (number + 1) count' taken taken'' StandsThen Sound SoundThen past then
      goes_on_by {StandsThen} a = record {
        turns = p.turns ++ a.turns;
        follows = all_follow Faulty told told_now state before now honest p.crash.sound p.turns a.turns p.at_mark p.follows a.follows;
        stands = subst StandsThen (sym (last_state-append state p.turns a.turns)) a.stands;
        at_mark = marks_on a.turns a.at_mark;
        crash = crash_on Faulty p.at_mark (p.follows any_disks tt) p.crash a.crash;
        written = subst (λ r. Appends taken taken'' (text_of r)) (sym (turn_replies-append p.turns a.turns)) (appends_replies taken taken' taken'' (turn_replies p.turns) (turn_replies a.turns) p.written a.written);
        read = subst (λ c. OfUnread (λ unread rest. script_of unread ≡ prepend c (script_from (number + 1) count' (terminated_lines rest))) [] input pending' left') (sym (turn_lines-append p.turns a.turns))
            (unread_chain
            (λ unread rest. script_of unread ≡ prepend (turn_lines p.turns) (script_from number count (terminated_lines rest)))
            (λ unread rest. TakesLine count unread text count' rest)
            (λ unread rest. script_of unread ≡ prepend (turn_lines p.turns ++ turn_lines a.turns) (script_from (number + 1) count' (terminated_lines rest)))
            [] pending pending' input left left' p.read t
            (λ u m r e k. e ∙ ap (prepend (turn_lines p.turns)) (script_by_line number count count' m text r k
            ∙ ap (λ s. script_after (number + 1) (line_of s) (script_from (number + 1) count' (terminated_lines r))) (sym same_text) ∙ a.says (number + 1) (script_from (number + 1) count' (terminated_lines r)))
            ∙ prepend-prepend (turn_lines p.turns) (turn_lines a.turns) (script_from (number + 1) count' (terminated_lines r))));
      }

      -- a line that is not answered, or not wholly
      pub played_unanswered : {StandsThen : RunState → Type 0} {SoundThen : Cells → Type 0} {then : ℕ → Files → Type 0} (ending : Ending) →
          Unanswered Faulty told_now (last_state state p.turns) now after taken' taken'' (number + 1) shown_text ending StandsThen SoundNow SoundThen since then →
          Played Faulty told state before after input taken taken'' ending StandsThen Sound SoundThen past then
      played_unanswered {StandsThen} ending u = record {
        turns = p.turns ++ u.turns;
        shown = turn_replies p.turns ++ u.shown;
        follows = all_follow Faulty told told_now state before now honest p.crash.sound p.turns u.turns p.at_mark p.follows u.follows;
        stands = subst StandsThen (sym (last_state-append state p.turns u.turns)) u.stands;
        at_mark = subst (λ m. EndsAt (NextReopens input (turn_lines (p.turns ++ u.turns))) ending m after) (sym (last_mark-append before p.turns u.turns ∙ ap (λ m. last_mark m u.turns) p.at_mark))
            (ends_on (λ says. subst (NextReopens input) (sym (turn_lines-append p.turns u.turns))
            (reopen_on input left left' pending pending' number count count' text (turn_lines p.turns) (turn_lines u.turns) p.read t (subst (λ s. SaysReopen s (turn_lines u.turns)) same_text says)))
            ending (last_mark now u.turns) after u.at_mark);
        crash = crash_on Faulty p.at_mark (p.follows any_disks tt) p.crash u.crash;
        read = subst (λ c. IfSome input (λ bytes. Reads bytes c ending)) (sym (turn_lines-append p.turns u.turns))
            (reads_on input left left' pending pending' number count count' text (turn_lines p.turns) (turn_lines u.turns) ending p.read t (subst (λ s. SaysUpTo (number + 1) s (turn_lines u.turns) ending) same_text u.says));
        shows = subst (λ r. Shows r ending (turn_replies p.turns ++ u.shown)) (sym (turn_replies-append p.turns u.turns)) (shows_on (turn_replies p.turns) (turn_replies u.turns) u.shown ending u.shows);
        written = writes_on taken taken' taken'' (turn_replies p.turns) u.shown (status_of ending) p.written u.written;
      }

-- less is said of where the session stands then
pub played_less : {Faulty : ℕ → ℕ → Type 0} {told : Option (List World)} {state : RunState} {before after : Mark} {input taken taken' : Option (List ℕ)} {ending : Ending}
    {StandsFor Less : RunState → Type 0} {Sound SoundNow : Cells → Type 0} {past since : ℕ → Files → Type 0} → Played Faulty told state before after input taken taken' ending StandsFor Sound SoundNow past since →
    ((s : RunState) → StandsFor s → Less s) → Played Faulty told state before after input taken taken' ending Less Sound AnyCells past since
played_less {state = state} p weaken = record {
  turns = p.turns;
  shown = p.shown;
  follows = p.follows;
  stands = weaken (last_state state p.turns) p.stands;
  at_mark = p.at_mark;
  crash = lines_less p.crash;
  read = p.read;
  shows = p.shows;
  written = p.written;
}
