-- What a run is whose pool is opened, or isn't.
use Rattle.std.proofs.Common.{◌≡◌, inl, inr, ℕ, List, [], length, Option, None, Some, MatchOption, Contains, refl, sym, ◌∙◌, subst, arith}
use mathlib.Core.Path.{fun_ext}
use Rattle.std.specs.Prelude.{IsSome}
use Rattle.std.proofs.lemmas.Option.{same_Some}
use Rattle.disk_model.specs.declared.disks.PoolDisks.{Ghosts}
use Rattle.volume_layout.specs.Paths.{IsBlockId}
use Rattle.disk_model.specs.Worlds.{World}
use Rattle.disk_model.specs.Files.{Files}
use Rattle.disk_model.specs.Told.{IsWorldOf, InEachWorld, CanLeave, Leaves}
use Rattle.disk_model.specs.Moments.{AddsOnly}
use Rattle.disk_model.specs.Causes.{Rose}
use Rattle.disk_model.specs.Marks.{GoesOn, mark_of}
use Rattle.disk_model.proofs.Laws.{only_one}
use Rattle.map_model.specs.Cells.{Replica, Cell, Cells, absent, final, waiting}
use Rattle.map_model.specs.Copies.{BlockFiles, block_files}
use Rattle.map_model.specs.Allows.{Allows, AllowsImage}
use Rattle.map_model.specs.Openings.{LeavesBlockFile, WaitsExactly, MakesCells, shown_files, ReadsAlike}
use Rattle.map_model.specs.Sound.{matching, exactly, Fits, HasSoundCopies, IsSound}
use Rattle.map_model.specs.Slots.{view_of}
use Rattle.map_model.specs.Stands.{BlockBooks}
use Rattle.pool_state.specs.Rooms.{Choosing}
use Rattle.pool_state.specs.Stands.{PoolStands}
use Rattle.pool_open.specs.declared.opening.OpenFault.{OpenFault}
use Rattle.pool_open.specs.Numbering.{ChoosesAnew}
use Rattle.pool_open.specs.Waiting.{WaitsAs}
use Rattle.pool_open.specs.Outcome.{KeptOn, HasSoundFiles, ReadsAsOne, IsOpened, Opens, fault_disks}
use Rattle.run_end.specs.declared.ending.Ending.{Ending}
use Rattle.run_end.specs.declared.ending.Ending.TheVariants.{OpenFault as OpenFailed}
use Rattle.run_end.specs.Ending.{status_of}
use Rattle.run_end.specs.Closing.{Writes}
use Rattle.run_model.specs.Books.{BooksOpened}
use Rattle.run_model.specs.Carrying.{LeavesAllowed}
use Rattle.dn_play.specs.Answer.{Played, IsOfLines}
use Rattle.dn_play.specs.Play.{HoldsImage, Course, IsBeforeOpened, ReadsAlikeUpTo, RunsPool}
use Rattle.dn_play.proofs.Crashes.{counts_on, first_allowed, each_allowed, each_whole}
use Rattle.run_session.proofs.Opened.{first_of}
use Rattle.dn_play.proofs.Progress.{known_on}

-- the only world of a fresh disk
abbrev fresh : Files → World
fresh start = record { settled = start; drafts = [] }

only_fresh : (told : Option (List World)) (start : Files) → HoldsImage told start → (world : World) → IsWorldOf told world → fresh start ≡ world
only_fresh told start holds world is =
    only_one (fresh start) world (subst (λ worlds. Contains worlds world) (sym (same_Some _ _ (sym holds ∙ is.1))) is.2)

-- it can leave only its image
pub only_start : (told : Option (List World)) (start image : Files) → HoldsImage told start → CanLeave told image → image ≡ start
only_start told start image holds leaves =
    let world = only_fresh told start holds leaves.0 leaves.1 in
    fun_ext (λ vol. fun_ext (λ path. (subst (λ (w : World). Rattle.disk_model.specs.Told.Leaves w image) (sym world) leaves.2).settled vol path refl))

tells : (told : Option (List World)) (start : Files) → HoldsImage told start → IsSome told
tells told start holds = subst IsSome (sym holds) refl

-- what reads as the start, the first cells allow
kind_allows : (files : BlockFiles) (cell : Cell) (replica : Option Replica) → IsOpened cell → MatchOption replica (WaitsExactly files cell) (λ r. cell ≡ final r) → Allows cell replica
kind_allows files cell (Some r) opened made = subst (λ c. Allows c (Some r)) (sym made) refl
kind_allows files cell None (inl is) made = subst (λ c. Allows c None) (sym is) refl
kind_allows files cell None (inr (inr is)) made = subst (λ c. Allows c None) (sym is) refl
kind_allows files cell None (inr (inl is)) made =
    let no : LeavesBlockFile files → ⊥ = λ leaves. let bad : final is.0 ≡ waiting = sym is.1 ∙ made.waits leaves in cc in
    let bad : final is.0 ≡ absent = sym is.1 ∙ made.absent no in absurd cc

start_allows : (files : ℕ → BlockFiles) (cells : Cells) (image : Files) → ((id : ℕ) → IsBlockId id → IsOpened (cells id)) → MakesCells files cells → ReadsAlike files image → AllowsImage cells image
start_allows files cells image opened made alike id valid =
    let own = made id valid in
    record { read = own.replica; reads = alike id valid own.replica own.reads; allowed = kind_allows (files id) (cells id) own.replica (opened id valid) own.made }

pub alike_start : (start image : Files) → image ≡ start → ReadsAlike (block_files start) image
alike_start start image same = subst (λ (i : Files). ReadsAlike (block_files start) i) (sym same) (λ id valid replica reads. reads)

shown_start : (told : Option (List World)) (start : Files) (world : World) → HoldsImage told start → IsWorldOf told world → (P : (ℕ → BlockFiles) → Type 0) → P (shown_files world) → P (block_files start)
shown_start told start world holds is P has = subst (λ (w : World). P (shown_files w)) (sym (only_fresh told start holds world is)) has

sound_start : (told : Option (List World)) (start : Files) → HoldsImage told start → IsSound start → InEachWorld told HasSoundFiles
sound_start told start holds sound world is = subst HasSoundFiles (only_fresh told start holds world is) sound

module _ {D S T R : Type 0} (g : Ghosts D S T R) (Faulty : ℕ → ℕ → Type 0)
    (before : D) (only_now : (image : Files) → g.left_since before (g.moment before) image → CanLeave (g.worlds before) image) where
  abbrev course_between : D → (shares : List ℕ) → Option (List ℕ) → Course
  course_between after shares input = record { entry = mark_of g before; exit = mark_of g after; told = g.worlds before; shares = shares; input = input }

  -- what the opening shows reads as the start
  reads_start : (after : D) (start : Files) → HoldsImage (g.worlds before) start → AddsOnly (g.left_since before) (g.left_since after) (ReadsAsOne (g.worlds before)) →
      (image : Files) → g.left_since after (g.moment before) image → ReadsAlike (block_files start) image
  reads_start after start holds adds image s = elim (adds (g.moment before) image s) [
    | inl earlier ↦ alike_start start image (only_start (g.worlds before) start image holds (only_now image earlier))
    | inr reads ↦ shown_start (g.worlds before) start reads.0 holds reads.1 (λ files. ReadsAlike files image) reads.2.alike
  ]

  -- and is sound where that is
  sound_still : (after : D) (start : Files) → HoldsImage (g.worlds before) start → IsSound start → AddsOnly (g.left_since before) (g.left_since after) (ReadsAsOne (g.worlds before)) →
      (image : Files) → g.left_since after (g.moment before) image → IsSound image
  sound_still after start holds sound adds image s = elim (adds (g.moment before) image s) [
    | inl earlier ↦ subst IsSound (sym (only_start (g.worlds before) start image holds (only_now image earlier))) sound
    | inr reads ↦ reads.2.sound (sound_start (g.worlds before) start holds sound reads.0 reads.1)
  ]

  -- nothing was carried out
  pub stops_so : (out known : D) (fault : OpenFault D) (shares : List ℕ) (input taken : Option (List ℕ)) (ending : Ending) → out ≡ known → fault_disks fault ≡ known →
      GoesOn g before (fault_disks fault) → IsBeforeOpened ending → Writes (status_of ending) taken taken [] →
      (ending ≡ OpenFailed → Rose (g.faults before) (g.faults known)) →
      AddsOnly (g.left_since before) (g.left_since (fault_disks fault)) (ReadsAsOne (g.worlds before)) →
      RunsPool Faulty (g.left_since out) (CanLeave (g.worlds out)) (course_between out shares input) taken taken ending
  stops_so out known fault shares input taken ending is of_fault on early written open_fault images =
      let went : GoesOn g before known = subst (GoesOn g before) of_fault on in
      let reads : AddsOnly (g.left_since before) (g.left_since known) (ReadsAsOne (g.worlds before)) = subst (λ (d : D). AddsOnly (g.left_since before) (g.left_since d) (ReadsAsOne (g.worlds before))) of_fault images in
      subst (λ d. RunsPool Faulty (g.left_since d) (CanLeave (g.worlds d)) (course_between d shares input) taken taken ending) (sym is) (record {
        shown = [];
        goes = inl (record {
          is_before = early;
          nothing = refl;
          counts = counts_on went;
          open_fault = open_fault;
          images = λ start holds image s. reads_start known start holds reads image s;
          sound = λ start holds sound image s. sound_still known start holds sound reads image s;
        });
        written = written;
      })

  -- the lines were carried out
  pub runs_so : (mid after out : D) {volumes : ℕ} {books : ℕ → BlockBooks} {SoundNow : Cells → Type 0}
      (choosing : Choosing) (shares : List ℕ) → ChoosesAnew shares 1 books choosing → (input taken taken' : Option (List ℕ)) (ending : Ending) → out ≡ after → GoesOn g before mid →
      (opens : Opens (g.worlds before) (g.worlds mid) volumes books (g.left_since before) (g.left_since mid)) → ((id : ℕ) → IsBlockId id → BooksOpened (length shares) (opens.cells id) (books id)) →
      Played Faulty (g.worlds mid) (first_of opens.cells opens.metas books choosing) (mark_of g mid) (mark_of g after) input taken taken' ending
      (LeavesAllowed (g.worlds after)) (PoolStands (g.worlds mid) volumes books matching) SoundNow (g.left_since mid) (g.left_since after) → IsOfLines ending →
      AddsOnly (g.left_since before) (g.left_since mid) (ReadsAsOne (g.worlds before)) →
      RunsPool Faulty (g.left_since out) (CanLeave (g.worlds out)) (course_between out shares input) taken taken' ending
  runs_so mid after out {volumes} {books} {SoundNow} choosing shares anew input taken taken' ending is went opens said p of_lines meanwhile =
      let since_opening : (start : Files) → HoldsImage (g.worlds before) start → ReadsAlikeUpTo (g.left_since after) (mark_of g before) (mark_of g mid) start = λ start holds image s.
      elim (p.crash.passes.adds (g.moment before) image s) [
        | inl earlier ↦ inl (reads_start mid start holds meanwhile image earlier)
        | inr new ↦ inr (new (g.moment mid) (omega arith))
      ] in
      let made : (start : Files) → HoldsImage (g.worlds before) start → MakesCells (block_files start) opens.cells = λ start holds.
      let shows = opens.shown (tells (g.worlds before) start holds) in
      shown_start (g.worlds before) start shows.world holds shows.is (λ files. MakesCells files opens.cells) shows.made in
      subst (λ d. RunsPool Faulty (g.left_since d) (CanLeave (g.worlds d)) (course_between d shares input) taken taken' ending) (sym is) (record {
        shown = p.shown;
        goes = inr (record {
          first = first_of opens.cells opens.metas books choosing;
          mark = mark_of g mid;
          turns = p.turns;
          opened = opens.opened;
          books = said;
          choosing = anew;
          from_start = made;
          metas_from_start = λ start holds.
              let shows = opens.shown (tells (g.worlds before) start holds) in
              shown_start (g.worlds before) start shows.world holds shows.is (λ files. (id : ℕ) → IsBlockId id → HasSoundCopies (Fits (exactly opens.metas) id) (files id)) shows.metas_are;
          placed_from_start = λ start holds id valid replica is.
              let shows = opens.shown (tells (g.worlds before) start holds) in
              shown_start (g.worlds before) start shows.world holds shows.is (λ files. KeptOn (files id) (books id) replica) (shows.placed id valid replica is);
          waiting_from_start = λ start holds id valid waits.
              let shows = opens.shown (tells (g.worlds before) start holds) in
              subst (λ (w : World). WaitsAs (view_of w id) (books id)) (sym (only_fresh (g.worlds before) start holds shows.world shows.is)) (shows.waiting id valid waits);
          counts = counts_on went;
          follows = λ trust known. p.follows trust (known_on trust (g.worlds before) (g.worlds mid) went.honest.0
              (λ begins. opens.stands_by matching (sound_start (g.worlds before) begins.0 begins.1 begins.2)) known);
          at_exit = p.at_mark;
          read = p.read;
          shows = p.shows;
          of_lines = of_lines;
          images = λ start holds image s. elim (since_opening start holds image s) [
            | inl alike ↦ first_allowed (first_of opens.cells opens.metas books choosing) p.turns image (start_allows (block_files start) opens.cells image opens.opened (made start holds) alike)
            | inr later ↦ each_allowed (g.left_since after) (mark_of g mid) (first_of opens.cells opens.metas books choosing) p.turns image p.crash.each later
          ];
          images_opening = since_opening;
          images_each = p.crash.each;
          images_at_exit = λ image leaves. (p.stands image leaves).0;
          whole_at_exit = λ image leaves. (p.stands image leaves).1;
          whole = λ image s. each_whole (g.left_since after) (mark_of g mid) (first_of opens.cells opens.metas books choosing) p.turns image p.crash.each s;
          sound = λ start holds sound image s.
              let worlds_are = sound_start (g.worlds before) start holds sound in
              elim (p.crash.sound_images (opens.stands_by matching worlds_are) (g.moment before) image s) [
                | inr is_sound ↦ is_sound
                | inl opening ↦ elim (meanwhile (g.moment before) image opening) [
                  | inl earlier ↦ subst IsSound (sym (only_start (g.worlds before) start image holds (only_now image earlier))) sound
                  | inr reads ↦ reads.2.sound (worlds_are reads.0 reads.1)
                ]
              ];
        });
        written = p.written;
      })
