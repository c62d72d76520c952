-- A run's last line, and what its status says.
use Rattle.std.proofs.Common.{◌≡◌, ℕ, ◌≤◌, ◌⊎◌, inl, inr, List, [], ◌∷◌, ◌++◌, refl, ap, sym, ◌∙◌, subst, arith, Option, Some, None, IfSome}
use Rattle.std.proofs.lemmas.List.{append-nil, append_assoc}
use Rattle.disk_model.specs.Causes.{Rose}
use Rattle.script_lang.specs.declared.line.Line.{Line}
use Rattle.script_lang.specs.declared.line.Line.TheVariants.{Node}
use Rattle.script_lang.specs.declared.line.NodeLine.TheVariants.{Reopen}
use Rattle.script_lang.specs.declared.reply.Reply.{Reply}
use Rattle.run_end.specs.declared.ending.Ending.{Ending}
use Rattle.run_end.specs.declared.ending.Ending.TheVariants.{Complete, Usage, SourceFault, SinkFault, NoMemory, Outside, OpenFault, Limit, Later, NotCarriedOut}
use Rattle.run_end.specs.Ending.{status_of}
use Rattle.run_end.specs.Closing.{Ends, Closed}
use Rattle.run_model.specs.State.{RunState, Turn, last_mark, turn_lines, turn_replies}
use Rattle.run_model.specs.Commands.{any_disks}
use Rattle.run_model.specs.Lines.{Follows}
use Rattle.run_model.specs.Script.{script_of}
use Rattle.dn_play.specs.Endings.{status_at, Shows, Reads, FirstCommands, text_of}
use Rattle.dn_play.specs.Answer.{IsOfLines, NextReopens, EndsAt}
use Rattle.disk_model.specs.Files.{Files}
use Rattle.disk_model.specs.Marks.{Mark}
use Rattle.dn_play.specs.Play.{Course, Goes, RunsPool, Runs}
use Rattle.run_session.proofs.Stepping.{rose_from}

-- the commands before an opening again
before_reopen : (bytes : List ℕ) (commands : List Line) → FirstCommands bytes (commands ++ Node Reopen ∷ []) → FirstCommands bytes commands
before_reopen bytes commands h = (Node Reopen ∷ h.0, h.1 ∙ append_assoc commands (Node Reopen ∷ []) h.0)

-- want of memory for the last line says no less of the counts
ends_weaker : (input : Option (List ℕ)) (commands : List Line) (ending : Ending) (last end : Mark) → IfSome input (λ bytes. Reads bytes commands ending) →
    EndsAt (NextReopens input commands) ending last end → EndsAt (NextReopens input commands) NoMemory last end
ends_weaker input commands NoMemory last end read h = h
ends_weaker input commands OpenFault last end read h = inr (read, h.0)
ends_weaker input commands ending last end read h = inl h

-- the lines keep the order of the counts
follows_later : (Faulty : ℕ → ℕ → Type 0) (state : RunState) (mark : Mark) (turns : List Turn) → Follows any_disks Faulty state mark turns → mark.faults ≤ (last_mark mark turns).faults
follows_later Faulty state mark [] follows = omega arith
follows_later Faulty state mark (turn ∷ turns) follows =
    let rest = follows_later Faulty turn.state turn.mark turns follows.1 in
    omega (arith, rest, follows.0.counts.faults)

-- what an ending for want of memory leaves of the others
reads_weaker : (bytes : List ℕ) (commands : List Line) (ending : Ending) → Reads bytes commands ending → FirstCommands bytes commands
reads_weaker bytes commands Complete h = ([], ap (λ s. s.commands) h ∙ sym (append-nil commands))
reads_weaker bytes commands (Outside line column) h = ([], ap (λ s. s.commands) h ∙ sym (append-nil commands))
reads_weaker bytes commands (Limit line) h = ([], ap (λ s. s.commands) h ∙ sym (append-nil commands))
reads_weaker bytes commands (Later line) h = ([], ap (λ s. s.commands) h ∙ sym (append-nil commands))
reads_weaker bytes commands OpenFault h = before_reopen bytes commands h
reads_weaker bytes commands NotCarriedOut h = absurd h
reads_weaker bytes commands Usage h = absurd h
reads_weaker bytes commands ending h = h

shows_weaker : (replies shown : List Reply) (ending : Ending) → Shows replies ending shown → Shows replies NoMemory shown
shows_weaker replies shown NoMemory h = h
shows_weaker replies shown ending h = ([], sym h ∙ sym (append-nil shown), omega arith)

told_weaker : (input : Option (List ℕ)) (commands : List Line) (ending : Ending) → IfSome input (λ bytes. Reads bytes commands ending) → IfSome input (λ bytes. FirstCommands bytes commands)
told_weaker None commands ending h = tt
told_weaker (Some bytes) commands ending h = reads_weaker bytes commands ending h

-- a run that ends without memory for its last line
goes_weaker : (Faulty : ℕ → ℕ → Type 0) (since : ℕ → Files → Type 0) (can_leave : Files → Type 0) (course : Course) (ending : Ending) (shown : List Reply) → Goes Faulty since can_leave course ending shown → Goes Faulty since can_leave course NoMemory shown
goes_weaker Faulty since can_leave course ending shown goes = elim goes [
  | inl s ↦ inl (record { is_before = inl refl; nothing = s.nothing; counts = s.counts; open_fault = λ e. absurd (cc e); images = s.images; sound = s.sound })
  | inr r ↦ inr (record {
    first = r.first;
    mark = r.mark;
    turns = r.turns;
    opened = r.opened;
    books = r.books;
    from_start = r.from_start;
    metas_from_start = r.metas_from_start;
    placed_from_start = r.placed_from_start;
    waiting_from_start = r.waiting_from_start;
    counts = r.counts;
    follows = r.follows;
    choosing = r.choosing;
    at_exit = ends_weaker course.input (turn_lines r.turns) ending (last_mark r.mark r.turns) course.exit r.read r.at_exit;
    read = told_weaker course.input (turn_lines r.turns) ending r.read;
    shows = shows_weaker (turn_replies r.turns) shown ending r.shows;
    of_lines = tt;
    images = r.images;
    images_opening = r.images_opening;
    images_each = r.images_each;
    images_at_exit = r.images_at_exit;
    whole_at_exit = r.whole_at_exit;
    whole = r.whole;
    sound = r.sound;
  })
]

-- a run that was closed
pub run_of : (Faulty : ℕ → ℕ → Type 0) (since : ℕ → Files → Type 0) (can_leave : Files → Type 0) (course : Course) (taken mid taken' : Option (List ℕ)) (ending : Ending) (status : ℕ) →
    (p : RunsPool Faulty since can_leave course taken mid ending) → Closed ending taken taken' (text_of p.shown) status → Runs Faulty since can_leave course taken taken' status
run_of Faulty since can_leave course taken mid taken' ending status p k = elim k.closing_is [
  | inl e ↦ record { ending = ending; shown = p.shown; goes = p.goes; ends = subst (λ (c : Ending). Ends c taken taken' (text_of p.shown) status) e k.ends }
  | inr e ↦ record {
    ending = NoMemory;
    shown = p.shown;
    goes = goes_weaker Faulty since can_leave course ending p.shown p.goes;
    ends = subst (λ (c : Ending). Ends c taken taken' (text_of p.shown) status) e.0 k.ends;
  }
]

-- a run isn't of the endings of other words
pub not_usage : (Faulty : ℕ → ℕ → Type 0) (since : ℕ → Files → Type 0) (can_leave : Files → Type 0) (course : Course) (shown : List Reply) (ending : Ending) → Goes Faulty since can_leave course ending shown → ending ≡ Usage → ⊥
not_usage Faulty since can_leave course shown ending goes e = elim goes [
  | inl s ↦ elim s.is_before [ inl k ↦ absurd (let x : Usage ≡ NoMemory = sym e ∙ k in cc x) | inr j ↦ absurd (let x : Usage ≡ OpenFault = sym e ∙ j in cc x) ]
  | inr r ↦ subst IsOfLines e r.of_lines
]

-- where the disks failed at the opening
pub opening_failed : (Faulty : ℕ → ℕ → Type 0) (since : ℕ → Files → Type 0) (can_leave : Files → Type 0) (course : Course) (shown : List Reply) (ending : Ending) → Goes Faulty since can_leave course ending shown → ending ≡ OpenFault → Rose course.entry.faults course.exit.faults
opening_failed Faulty since can_leave course shown ending goes e = elim goes [
  | inl s ↦ s.open_fault e
  | inr r ↦
      let at : EndsAt (NextReopens course.input (turn_lines r.turns)) OpenFault (last_mark r.mark r.turns) course.exit = subst (λ (x : Ending). EndsAt (NextReopens course.input (turn_lines r.turns)) x (last_mark r.mark r.turns) course.exit) e r.at_exit in
      let lines = follows_later Faulty r.first r.mark r.turns (r.follows any_disks tt) in
      rose_from course.entry.faults (last_mark r.mark r.turns).faults course.exit.faults (omega (arith, r.counts.faults, lines)) at.1
]

pub rose_to : (first before now : ℕ) → Rose first before → before ≤ now → Rose first now
rose_to first before now r h = omega arith

-- the sink's fault, in the lines or at the last line
pub rose_in : (ending : Ending) (first before now : ℕ) → (ending ≡ SinkFault → Rose first before) → first ≤ before → before ≤ now → (ending ≡ SinkFault) ⊎ Rose before now → Rose first now
rose_in ending first before now rose h k is = elim is [ inl e ↦ rose_to first before now (rose e) k | inr r ↦ rose_from first before now h r ]

-- the place where the script stops, by the ending of a run
lines_stop : {A B C : Type 0} (bytes : List ℕ) (commands : List Line) (ending : Ending) (status : ℕ) → IsOfLines ending → Reads bytes commands ending → (ending ≡ SourceFault → status ≡ 2 → A) → (status ≡ 3 → B) → (ending ≡ OpenFault → C) → (status ≡ status_of ending) →
    (status ≡ status_at (script_of bytes).stop) ⊎ (status ≡ 4) ⊎ A ⊎ B ⊎ C
lines_stop bytes commands Complete status of_lines h source sink disks is = inl (is ∙ ap (λ s. status_at s.stop) (sym h))
lines_stop bytes commands Usage status of_lines h source sink disks is = absurd of_lines
lines_stop bytes commands SourceFault status of_lines h source sink disks is = inr (inr (inl (source refl is)))
lines_stop bytes commands SinkFault status of_lines h source sink disks is = inr (inr (inr (inl (sink is))))
lines_stop bytes commands NoMemory status of_lines h source sink disks is = inr (inl is)
lines_stop bytes commands (Outside line column) status of_lines h source sink disks is = inl (is ∙ ap (λ s. status_at s.stop) (sym h))
lines_stop bytes commands OpenFault status of_lines h source sink disks is = inr (inr (inr (inr (disks refl))))
lines_stop bytes commands (Limit line) status of_lines h source sink disks is = inl (is ∙ ap (λ s. status_at s.stop) (sym h))
lines_stop bytes commands NotCarriedOut status of_lines h source sink disks is = absurd of_lines
lines_stop bytes commands (Later line) status of_lines h source sink disks is = inl (is ∙ ap (λ s. status_at s.stop) (sym h))

stop_of : {A B C : Type 0} (Faulty : ℕ → ℕ → Type 0) (since : ℕ → Files → Type 0) (can_leave : Files → Type 0) (course : Course) (bytes : List ℕ) (ending : Ending) (shown : List Reply) (status : ℕ) → course.input ≡ Some bytes → Goes Faulty since can_leave course ending shown → (status ≡ status_of ending) ⊎ (status ≡ 3) →
    (ending ≡ SourceFault → status ≡ 2 → A) → (status ≡ 3 → B) → (Rose course.entry.faults course.exit.faults → C) →
    (status ≡ status_at (script_of bytes).stop) ⊎ (status ≡ 4) ⊎ A ⊎ B ⊎ C
stop_of Faulty since can_leave course bytes ending shown status told goes is source sink disks = elim is [
  | inr three ↦ inr (inr (inr (inl (sink three))))
  | inl k ↦ elim goes [
    | inl s ↦ elim s.is_before [
      | inl e ↦ inr (inl (k ∙ ap status_of e))
      | inr j ↦ inr (inr (inr (inr (disks (s.open_fault j)))))
    ]
    | inr r ↦ lines_stop bytes (turn_lines r.turns) ending status r.of_lines (subst (λ i. IfSome i (λ input. Reads input (turn_lines r.turns) ending)) told r.read) source sink (λ e. disks (opening_failed Faulty since can_leave course shown ending (inr r) e)) k
  ]
]

-- where the source tells its input, the status is that of the place where the script stops, or a cause is known
pub stops_at : {A B C : Type 0} (Faulty : ℕ → ℕ → Type 0) (since : ℕ → Files → Type 0) (can_leave : Files → Type 0) (entry exit : Mark) (told : _) (shares : List ℕ) (input : Option (List ℕ)) (taken taken' : Option (List ℕ)) (status : ℕ) →
    Runs Faulty since can_leave (record { entry = entry; exit = exit; told = told; shares = shares; input = input }) taken taken' status → (status ≡ 2 → A) → (status ≡ 3 → B) → (Rose entry.faults exit.faults → C) →
    IfSome input (λ bytes. (status ≡ status_at (script_of bytes).stop) ⊎ (status ≡ 4) ⊎ A ⊎ B ⊎ C)
stops_at Faulty since can_leave entry exit told shares None taken taken' status r source sink disks = tt
stops_at Faulty since can_leave entry exit told shares (Some bytes) taken taken' status r source sink disks =
    stop_of Faulty since can_leave _ bytes r.ending r.shown status refl r.goes r.ends.status_is (λ e two. source two) sink disks
