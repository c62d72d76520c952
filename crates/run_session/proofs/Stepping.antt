-- How a session goes on to stand for another state.
use Rattle.std.proofs.Common.{◌≡◌, ◌≤◌, arith, ◌≢◌, ◌-◌, ◌<◌, inl, inr, ℕ, ◌==◌, ◌&&◌, if◌then◌else◌, false, List, Option, None, Some, refl, sym, ◌∙◌, ap, subst, IsSome, option_map, IfSome}
use Rattle.std.specs.Prelude.{MatchOption, Bool}
use Rattle.std.proofs.lemmas.Option.{same_Some}
use Rattle.std.proofs.lemmas.Bool.{cases_eq, eq-eqb, ne_eqb}
use Rattle.disk_model.specs.Causes.{Rose}
use Rattle.disk_model.specs.Moments.{AddsOnly}
use Rattle.map_model.specs.Copies.{OneWhole}
use Rattle.disk_model.specs.Worlds.{World, DraftPlace, draft_at}
use Rattle.map_model.specs.Cells.{Cell, Cells, growing, waiting}
use Rattle.map_model.specs.Steps.{Command, Room, Step, Reply as Answer, failed, memory}
use Rattle.map_model.specs.Stands.{BlockBooks}
use Rattle.disk_model.specs.Files.{Files}
use Rattle.disk_model.specs.Marks.{GivenBetween, Mark}
use Rattle.pool_state.specs.Answers.{StepsTo, TakesStep, IsQuiet}
use Rattle.run_model.specs.Images.{CrashSafe}
use Rattle.pool_state.specs.Stands.{with_cell, PoolStands}
use Rattle.pair_draft.specs.Writers.{Writer, Keeps}
use Rattle.pool_state.specs.Writers.{WriterStands}
use Rattle.pool_state.proofs.Belonging.{stands_elsewhere}
use Rattle.script_lang.specs.declared.reply.Reply.{Reply}
use Rattle.run_model.specs.State.{Numbers, RunState}
use Rattle.run_model.specs.Commands.{Trust, Says, FailsBy, begins_writer, IsContent, MetasAfter, given}
use Rattle.pool_state.specs.Readers.{LooksForTwo}
use Rattle.map_model.specs.Sound.{Metas, Knowledge, nothing, matching, exactly}
use Rattle.pool_state.proofs.Changing.{stands_for_less}
use Rattle.pool_state.specs.Rooms.{Choosing}
use Rattle.run_model.specs.Books.{RoomAsked, BookStep, Draws, BooksChange}
use Rattle.run_model.specs.Carrying.{IsKnown, CarriesOut}
use Rattle.run_session.specs.Standing.{NotGrowing, OpenWriter, Standing}

pub with_cell-here : (cells : Cells) (id : ℕ) (cell : Cell) → with_cell cells id cell id ≡ cell
with_cell-here cells id cell = rw (eq-eqb id id refl) refl

pub with_cell-other : (cells : Cells) (id : ℕ) (cell : Cell) (other : ℕ) → other ≢ id → with_cell cells id cell other ≡ cells other
with_cell-other cells id cell other apart = rw (ne_eqb other id apart) refl

-- at a key that was put, and at another
pub put_here : {X : Type 0} (id key : ℕ) (new old : X) → id ≡ key → (if id == key then new else old) ≡ new
put_here id key new old same = rw (eq-eqb id key same) refl

pub put_other : {X : Type 0} (id key : ℕ) (new old : X) → id ≢ key → (if id == key then new else old) ≡ old
put_other id key new old apart = rw (ne_eqb id key apart) refl

-- where a session stands, nothing need be known of the meta files
pub loose : {choosing : Choosing} {told : Option (List World)} {volumes : ℕ} {books : ℕ → BlockBooks} {writers : ℕ → Option Writer} {state : RunState} →
    Standing choosing told volumes books writers state → PoolStands told volumes books nothing state.cells
loose standing = stands_for_less (λ id content replica fits. tt) standing.pool

-- a writer of another block
open_on : (told told' : Option (List World)) (books books' : ℕ → BlockBooks) (id : ℕ) (cell : Cell) (numbers : Numbers) (w : Writer) →
    (IsSome told' → IsSome told) → books' id ≡ books id → OpenWriter told books id cell numbers w → OpenWriter told' books' id cell numbers w
open_on told told' books books' id cell numbers w honest same open_there = record {
  of = open_there.of;
  bytes = open_there.bytes;
  grows = open_there.grows;
  stands = record {
    valid = open_there.stands.valid;
    rev = open_there.stands.rev;
    block_number = open_there.stands.block_number;
    meta_number = open_there.stands.meta_number;
    is = ap books' open_there.of ∙ same ∙ ap books (sym open_there.of) ∙ open_there.stands.is;
    block = open_there.stands.block;
    meta = open_there.stands.meta;
    pushed = (stands_elsewhere {books' = books} open_there.stands honest refl).pushed;
  };
  block_given = open_there.block_given;
  meta_given = open_there.meta_given;
}

keeps_open : (told told' : Option (List World)) (books books' : ℕ → BlockBooks) (id : ℕ) (cell : Cell) (numbers : Numbers) (w : Option Writer) →
    (IsSome told' → IsSome told) → books' id ≡ books id → MatchOption w (NotGrowing cell) (OpenWriter told books id cell numbers) →
    MatchOption w (NotGrowing cell) (OpenWriter told' books' id cell numbers)
keeps_open told told' books books' id cell numbers None honest same here = here
keeps_open told told' books books' id cell numbers (Some w) honest same here = open_on told told' books books' id cell numbers w honest same here

-- A TENURE ON ONE BLOCK: the others' writers stay
pub goes_on : {choosing choosing' : Choosing} {told told' : Option (List World)} {volumes volumes' : ℕ} {books books' : ℕ → BlockBooks} {writers writers' : ℕ → Option Writer} {state : RunState} →
    Standing choosing told volumes books writers state → (id : ℕ) (cell : Cell) {metas : Metas} (numbers : ℕ → Numbers) →
    PoolStands told' volumes' books' (exactly metas) (with_cell state.cells id cell) → (IsSome told' → IsSome told) →
    ((other : ℕ) → other ≢ id → books' other ≡ books other) → ((other : ℕ) → other ≢ id → writers' other ≡ writers other) →
    ((other : ℕ) → other ≢ id → numbers other ≡ state.writers other) →
    MatchOption (writers' id) (NotGrowing cell) (OpenWriter told' books' id cell (numbers id)) →
    Standing choosing' told' volumes' books' writers' (record { cells = with_cell state.cells id cell; metas = metas; writers = numbers; books = books'; choosing = choosing' })
goes_on {choosing} {choosing'} {told} {told'} {volumes} {volumes'} {books} {books'} {writers} {writers'} {state} standing id cell {metas} numbers pool honest books_stay writers_stay numbers_stay own = record {
  pool = pool;
  chooses_by = refl;
  said = λ other. refl;
  writer = λ other valid. elim (cases_eq other id) [
    | inl same ↦
        subst (λ n. MatchOption (writers' n) (NotGrowing (with_cell state.cells id cell n)) (OpenWriter told' books' n (with_cell state.cells id cell n) (numbers n))) (sym same)
        (subst (λ c. MatchOption (writers' id) (NotGrowing c) (OpenWriter told' books' id c (numbers id))) (sym (with_cell-here state.cells id cell)) own)
    | inr apart ↦
        subst (λ c. MatchOption (writers' other) (NotGrowing c) (OpenWriter told' books' other c (numbers other))) (sym (with_cell-other state.cells id cell other apart))
        (subst (λ n. MatchOption (writers' other) (NotGrowing (state.cells other)) (OpenWriter told' books' other (state.cells other) n)) (sym (numbers_stay other apart))
        (subst (λ w. MatchOption w (NotGrowing (state.cells other)) (OpenWriter told' books' other (state.cells other) (state.writers other))) (sym (writers_stay other apart))
        (keeps_open told told' books books' other (state.cells other) (state.writers other) (writers other) honest (books_stay other apart) (standing.writer other valid))))
  ];
}

-- where the same cells stand, and the same writers are open
pub stays_on : {choosing choosing' : Choosing} {told told' : Option (List World)} {volumes volumes' : ℕ} {books books' : ℕ → BlockBooks} {writers writers' : ℕ → Option Writer} {state : RunState} →
    choosing' ≡ choosing → Standing choosing told volumes books writers state → PoolStands told' volumes' books' (exactly state.metas) state.cells → (IsSome told' → IsSome told) →
    ((id : ℕ) → books' id ≡ books id) → ((id : ℕ) → writers' id ≡ writers id) → Standing choosing' told' volumes' books' writers' state
stays_on {choosing} {choosing'} {told} {told'} {volumes} {volumes'} {books} {books'} {writers} {writers'} {state} same_choosing standing pool honest books_stay writers_stay = record {
  pool = pool;
  chooses_by = standing.chooses_by ∙ sym same_choosing;
  said = λ id. standing.said id ∙ sym (books_stay id);
  writer = λ id valid.
      subst (λ w. MatchOption w (NotGrowing (state.cells id)) (OpenWriter told' books' id (state.cells id) (state.writers id))) (sym (writers_stay id))
      (keeps_open told told' books books' id (state.cells id) (state.writers id) (writers id) honest (books_stay id) (standing.writer id valid));
}

-- the open writer of a block, and that it has none
pub writer_of_block : (P : Type 0) (Q : Writer → Type 0) (o : Option Writer) (w : Writer) → o ≡ Some w → MatchOption o P Q → Q w
writer_of_block P Q o w is here = subst (λ v. MatchOption v P Q) is here

pub no_writer_of_block : (P : Type 0) (Q : Writer → Type 0) (o : Option Writer) → o ≡ None → MatchOption o P Q → P
no_writer_of_block P Q o is here = subst (λ v. MatchOption v P Q) is here

-- a block that doesn't grow has no open writer
pub none_open : (told : Option (List World)) (books : ℕ → BlockBooks) (id : ℕ) (cell : Cell) (numbers : Numbers) (o : Option Writer) → NotGrowing cell →
    MatchOption o (NotGrowing cell) (OpenWriter told books id cell numbers) → o ≡ None
none_open told books id cell numbers None rests here = refl
none_open told books id cell numbers (Some w) rests here = absurd (subst NotGrowing here.grows rests)

-- what is seen of the open writers, where they are as before, or one was put
pub seen_same : {X : Type 0} (f : X → Writer) (new old : ℕ → Option X) → ((id : ℕ) → new id ≡ old id) → (id : ℕ) → option_map f (new id) ≡ option_map f (old id)
seen_same f new old same id = ap (option_map f) (same id)

pub seen_none : {X : Type 0} (f : X → Writer) (o : Option X) → option_map f o ≡ None → o ≡ None
seen_none f None is = refl
seen_none f (Some x) is = absurd cc

pub seen_some : {X : Type 0} (o : Option X) → IsSome o → (x : X) × (o ≡ Some x)
seen_some None is = absurd cc
seen_some (Some x) is = (x, refl)

pub mapped_none : {X Y : Type 0} (f : X → Y) (o : Option X) → option_map f o ≡ None → o ≡ None
mapped_none f None is = refl
mapped_none f (Some x) is = absurd cc

pub mapped_some : {X Y : Type 0} (f : X → Y) (o : Option X) (y : Y) → option_map f o ≡ Some y → (x : X) × (o ≡ Some x) × (f x ≡ y)
mapped_some f None y is = absurd cc
mapped_some f (Some x) y is = (x, refl, same_Some _ _ is)

-- a writer that was taken and put back, as it was or not
pub put_back : {X : Type 0} (f : X → Writer) (id key : ℕ) (old mid new : ℕ → Option X) (x : X) → key ≡ id →
    ((other : ℕ) → mid other ≡ (if other == id then None else old other)) → ((other : ℕ) → new other ≡ (if other == key then Some x else mid other)) →
    ((other : ℕ) → other ≢ id → option_map f (new other) ≡ option_map f (old other)) × (option_map f (new id) ≡ Some (f x))
put_back f id key old mid new x same taken put = (
  λ other apart. ap (option_map f) (put other ∙ put_other other key (Some x) (mid other) (λ e. apart (e ∙ same)) ∙ taken other ∙ put_other other id None (old other) apart),
  ap (option_map f) (put id ∙ put_here id key (Some x) (mid id) (sym same)),
)

-- and one that was put where the others stayed
pub put_new : {X : Type 0} (f : X → Writer) (id key : ℕ) (old mid new : ℕ → Option X) (x : X) → key ≡ id →
    ((other : ℕ) → mid other ≡ old other) → ((other : ℕ) → new other ≡ (if other == key then Some x else mid other)) →
    ((other : ℕ) → other ≢ id → option_map f (new other) ≡ option_map f (old other)) × (option_map f (new id) ≡ Some (f x))
put_new f id key old mid new x same stay put = (
  λ other apart. ap (option_map f) (put other ∙ put_other other key (Some x) (mid other) (λ e. apart (e ∙ same)) ∙ stay other),
  ap (option_map f) (put id ∙ put_here id key (Some x) (mid id) (sym same)),
)

-- a writer that was taken
pub took : {X : Type 0} (f : X → Writer) (id : ℕ) (old new : ℕ → Option X) → ((other : ℕ) → new other ≡ (if other == id then None else old other)) →
    ((other : ℕ) → other ≢ id → option_map f (new other) ≡ option_map f (old other)) × (option_map f (new id) ≡ None)
took f id old new taken = (
  λ other apart. ap (option_map f) (taken other ∙ put_other other id None (old other) apart),
  ap (option_map f) (taken id ∙ put_here id id None (old id) refl),
)

-- everywhere, where it is the same at one key and at the others
pub everywhere : {X : Type 0} (id : ℕ) (new old : ℕ → X) → ((other : ℕ) → other ≢ id → new other ≡ old other) → new id ≡ old id → (other : ℕ) → new other ≡ old other
everywhere id new old away here other = elim (cases_eq other id) [
  | inl same ↦ ap new same ∙ here ∙ ap old (sym same)
  | inr apart ↦ away other apart
]

-- the numbers of a writer that kept its drafts
pub same_block : (old new : Writer) (b b' vol vol' : ℕ) (path path' : List ℕ) → new.block ≡ old.block → old.block ≡ draft_at b vol path → new.block ≡ draft_at b' vol' path' → b' ≡ b
same_block old new b b' vol vol' path path' keeps was is = ap (λ (d : DraftPlace). d.number) (sym is ∙ keeps ∙ was)

pub same_meta : (old new : Writer) (m m' vol vol' : ℕ) (path path' : List ℕ) → new.meta ≡ old.meta → old.meta ≡ Some (draft_at m vol path) → new.meta ≡ Some (draft_at m' vol' path') → m' ≡ m
same_meta old new m m' vol vol' path path' keeps was is = ap (λ (d : DraftPlace). d.number) (same_Some _ _ (sym is ∙ keeps ∙ was))

-- an open writer that went on
pub open_goes_on : (told told' : Option (List World)) (books books' : ℕ → BlockBooks) (id : ℕ) (cell cell' : Cell) (numbers : Numbers) (old new : Writer) (bytes : List ℕ) →
    OpenWriter told books id cell numbers old → Keeps old new → new.meta ≡ old.meta → WriterStands told' books' new bytes → cell' ≡ growing new.stamp None bytes (new.reserved - new.len) →
    OpenWriter told' books' id cell' numbers new
open_goes_on told told' books books' id cell cell' numbers old new bytes was keeps keeps_meta stands grows = record {
  of = keeps.id ∙ was.of;
  bytes = bytes;
  grows = grows;
  stands = stands;
  block_given = subst (GivenBetween numbers.first numbers.last) (sym (same_block old new _ _ _ _ _ _ keeps.block was.stands.block stands.block)) was.block_given;
  meta_given = subst (GivenBetween numbers.first numbers.last) (sym (same_meta old new _ _ _ _ _ _ keeps_meta was.stands.meta stands.meta)) was.meta_given;
}

-- the number of a draft that was made
pub made_number : {T : Type 0} (place : T → DraftPlace) (first last : ℕ) (o : Option T) (m vol : ℕ) (path : List ℕ) → option_map place o ≡ Some (draft_at m vol path) →
    IfSome o (λ d. GivenBetween first last (place d).number) → GivenBetween first last m
made_number place first last None m vol path is made = absurd cc
made_number place first last (Some d) m vol path is made = subst (GivenBetween first last) (ap (λ (x : DraftPlace). x.number) (same_Some _ _ is)) made

-- a count that rose later rose
pub rose_from : (first before now : ℕ) → first ≤ before → Rose before now → Rose first now
rose_from first before now h r = omega arith

-- no change of the writers' numbers, where the command begins none
begins_none : (b : Bool) (id : ℕ) (other : ℕ) (new old : Numbers) → b ≡ false → old ≡ (if b && other == id then new else old)
begins_none b id other new old same = rw same refl

-- a tenure at another name of its block
pub at_block : {room : Room} {id other : ℕ} {command : Command} {answer : Answer} {SaysOf : Cell → Type 0} {cells : Cells} {Stood StandsFor : Knowledge → Cells → Type 0} {past since : ℕ → Files → Type 0} →
    {Whole : Type 0} → id ≡ other → TakesStep room id command answer SaysOf cells Stood StandsFor past since × Whole → TakesStep room other command answer SaysOf cells Stood StandsFor past since × Whole
at_block {room} {id} {other} {command} {answer} {SaysOf} {cells} {Stood} {StandsFor} {past} {since} {Whole} same step =
    subst (λ n. TakesStep room n command answer SaysOf cells Stood StandsFor past since × Whole) same step

pub at_block_steps : {room : Room} {id other : ℕ} {command : Command} {answer : Answer} {SaysOf : Cell → Type 0} {cells : Cells} {Stood StandsFor : Knowledge → Cells → Type 0} →
    id ≡ other → StepsTo room id command answer SaysOf cells Stood StandsFor → StepsTo room other command answer SaysOf cells Stood StandsFor
at_block_steps {room} {id} {other} {command} {answer} {SaysOf} {cells} {Stood} {StandsFor} same step = subst (λ n. StepsTo room n command answer SaysOf cells Stood StandsFor) same step

-- what a crash can leave: of a tenure that takes a step, of a quiet one, and of none
pub crash_takes : {room : Room} {id : ℕ} {command : Command} {answer : Answer} {SaysOf : Cell → Type 0} {cells : Cells} {Stood StandsFor : Knowledge → Cells → Type 0} {past since : ℕ → Files → Type 0} →
    (both : TakesStep room id command answer SaysOf cells Stood StandsFor past since × AddsOnly past since OneWhole) →
    CrashSafe cells (with_cell cells id both.0.to.cell) (Stood matching) (StandsFor matching) past since
crash_takes both = record { images = both.0.images; sound = both.0.to.stands matching; sound_images = both.0.sound_images; whole = both.1 }

pub crash_rests : {cells : Cells} {Stood StandsFor : Knowledge → Cells → Type 0} {past since : ℕ → Files → Type 0} → IsQuiet cells Stood StandsFor past since × AddsOnly past since OneWhole →
    CrashSafe cells cells (Stood matching) (StandsFor matching) past since
crash_rests (quiet, whole) = record {
  images = λ t image s. elim (quiet.images t image s) [ inl earlier ↦ inl earlier | inr allows ↦ inr (inl allows) ];
  sound = quiet.stands matching;
  sound_images = quiet.sound_images;
  whole = whole;
}

pub crash_same : (cells : Cells) (Sound : Cells → Type 0) (past : ℕ → Files → Type 0) → CrashSafe cells cells Sound Sound past past
crash_same cells Sound past = record { images = λ t image s. inl s; sound = λ sound. sound; sound_images = λ sound t image s. inl s; whole = λ t image s. inl s }

pub crash_only : {cells after : Cells} {Sound SoundNow : Cells → Type 0} {past : ℕ → Files → Type 0} → (Sound cells → SoundNow after) → CrashSafe cells after Sound SoundNow past past
crash_only sound = record { images = λ t image s. inl s; sound = sound; sound_images = λ was t image s. inl s; whole = λ t image s. inl s }

-- what a command does to the books, and to what is chosen by
pub record Changes (id : ℕ) (command : Command) (answer : Answer) (cell : Cell) (vol : ℕ) (was now : Choosing) (old new : ℕ → BlockBooks) : Type 0 where
  pub books : BooksChange id (BookStep command answer cell vol was.next_rev) old new
  pub choosing : Draws command answer cell vol was now

module _ {Faulty : ℕ → ℕ → Type 0} {told : Option (List World)} {old : RunState} {before after : Mark} {id : ℕ} {command : Command} {reply : Reply} {StandsFor : RunState → Type 0}
    {Sound SoundNow : Cells → Type 0} {past since : ℕ → Files → Type 0} where
  -- a command that leaves the state as it was
  pub carried_same : (asked : (room : Room) × (vol : ℕ) × RoomAsked command old.choosing old.books room vol) → StandsFor old → CrashSafe old.cells old.cells Sound SoundNow past since → (answer : Answer) → ((trust : Trust) → IsKnown (Sound old.cells) trust told → Says trust (old.metas id) answer reply) →
      Step asked.0 (old.cells id) command answer (old.cells id) → (answer ≡ failed → FailsBy Faulty before after (old.writers id) (old.cells id) command (old.cells id)) →
      (answer ≡ memory → old.cells id ≡ waiting → before.next_number < after.next_number) → begins_writer command answer ≡ false → MetasAfter command answer old.metas id (old.cells id) old.metas → (IsContent answer → LooksForTwo before after) →
      BookStep command answer (old.cells id) asked.1 old.choosing.next_rev (old.books id) (old.books id) → Draws command answer (old.cells id) asked.1 old.choosing old.choosing →
      CarriesOut Faulty told old before id command reply after StandsFor Sound SoundNow past since
  carried_same asked stands crash answer says step fault lack begins metas looked books draws = record {
    new = old;
    stands = stands;
    step = λ trust known. record {
      answer = answer;
      says = says trust known;
      room = asked.0;
      vol = asked.1;
      asked = asked.2;
      cells = record { own = step; others = λ other apart. refl };
      fault = fault;
      lack = lack;
      looked = looked;
      metas = metas;
      writers = λ other. begins_none (begins_writer command answer) id other (given before after) (old.writers other) begins;
      choosing = draws;
      books = record { own = books; others = λ other apart. refl };
    };
    crash = crash;
  }

  -- a command that changes its block's cell
  pub carried : (asked : (room : Room) × (vol : ℕ) × RoomAsked command old.choosing old.books room vol) → (cell : Cell) (metas : Metas) (numbers : ℕ → Numbers) (books : ℕ → BlockBooks) (choosing : Choosing) →
      StandsFor (record { cells = with_cell old.cells id cell; metas = metas; writers = numbers; books = books; choosing = choosing }) →
      CrashSafe old.cells (with_cell old.cells id cell) Sound SoundNow past since → (answer : Answer) → ((trust : Trust) → IsKnown (Sound old.cells) trust told → Says trust (old.metas id) answer reply) → Step asked.0 (old.cells id) command answer cell →
      (answer ≡ failed → FailsBy Faulty before after (old.writers id) (old.cells id) command cell) → (answer ≡ memory → cell ≡ waiting → before.next_number < after.next_number) →
      ((other : ℕ) → numbers other ≡ (if begins_writer command answer && other == id then given before after else old.writers other)) → MetasAfter command answer old.metas id cell metas → (IsContent answer → LooksForTwo before after) →
      Changes id command answer cell asked.1 old.choosing choosing old.books books → CarriesOut Faulty told old before id command reply after StandsFor Sound SoundNow past since
  carried asked cell metas numbers books choosing stands crash answer says step fault lack begins learns looked change = record {
    new = record { cells = with_cell old.cells id cell; metas = metas; writers = numbers; books = books; choosing = choosing };
    stands = stands;
    step = λ trust known. record {
      answer = answer;
      says = says trust known;
      room = asked.0;
      vol = asked.1;
      asked = asked.2;
      cells = record {
        own = subst (Step asked.0 (old.cells id) command answer) (sym (with_cell-here old.cells id cell)) step;
        others = λ other apart. with_cell-other old.cells id cell other apart;
      };
      fault = λ is. subst (FailsBy Faulty before after (old.writers id) (old.cells id) command) (sym (with_cell-here old.cells id cell)) (fault is);
      lack = λ is waits. lack is (sym (with_cell-here old.cells id cell) ∙ waits);
      looked = looked;
      metas = subst (λ c. MetasAfter command answer old.metas id c metas) (sym (with_cell-here old.cells id cell)) learns;
      writers = begins;
      choosing = subst (λ c. Draws command answer c asked.1 old.choosing choosing) (sym (with_cell-here old.cells id cell)) change.choosing;
      books = record {
        own = subst (λ c. BookStep command answer c asked.1 old.choosing.next_rev (old.books id) (books id)) (sym (with_cell-here old.cells id cell)) change.books.own;
        others = change.books.others;
      };
    };
    crash = crash;
  }

  -- a command that begins no writer, and after which more is known of meta files
  pub carried_learning : (asked : (room : Room) × (vol : ℕ) × RoomAsked command old.choosing old.books room vol) → (cell : Cell) (metas : Metas) (books : ℕ → BlockBooks) (choosing : Choosing) →
      StandsFor (record { cells = with_cell old.cells id cell; metas = metas; writers = old.writers; books = books; choosing = choosing }) →
      CrashSafe old.cells (with_cell old.cells id cell) Sound SoundNow past since → (answer : Answer) → ((trust : Trust) → IsKnown (Sound old.cells) trust told → Says trust (old.metas id) answer reply) → Step asked.0 (old.cells id) command answer cell →
      (answer ≡ failed → FailsBy Faulty before after (old.writers id) (old.cells id) command cell) → (answer ≡ memory → cell ≡ waiting → before.next_number < after.next_number) →
      begins_writer command answer ≡ false → MetasAfter command answer old.metas id cell metas → (IsContent answer → LooksForTwo before after) →
      Changes id command answer cell asked.1 old.choosing choosing old.books books → CarriesOut Faulty told old before id command reply after StandsFor Sound SoundNow past since
  carried_learning asked cell metas books choosing stands crash answer says step fault lack begins learns looked change =
      carried asked cell metas old.writers books choosing stands crash answer says step fault lack
      (λ other. begins_none (begins_writer command answer) id other (given before after) (old.writers other) begins) learns looked change

  -- a command that begins no writer
  pub carried_on : (asked : (room : Room) × (vol : ℕ) × RoomAsked command old.choosing old.books room vol) → (cell : Cell) (books : ℕ → BlockBooks) (choosing : Choosing) →
      StandsFor (record { cells = with_cell old.cells id cell; metas = old.metas; writers = old.writers; books = books; choosing = choosing }) →
      CrashSafe old.cells (with_cell old.cells id cell) Sound SoundNow past since → (answer : Answer) → ((trust : Trust) → IsKnown (Sound old.cells) trust told → Says trust (old.metas id) answer reply) → Step asked.0 (old.cells id) command answer cell →
      (answer ≡ failed → FailsBy Faulty before after (old.writers id) (old.cells id) command cell) → (answer ≡ memory → cell ≡ waiting → before.next_number < after.next_number) →
      begins_writer command answer ≡ false → MetasAfter command answer old.metas id cell old.metas → (IsContent answer → LooksForTwo before after) →
      Changes id command answer cell asked.1 old.choosing choosing old.books books → CarriesOut Faulty told old before id command reply after StandsFor Sound SoundNow past since
  carried_on asked cell = carried_learning asked cell old.metas
