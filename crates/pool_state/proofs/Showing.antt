-- What a crash can leave while a tenure changes one block.
use Rattle.std.proofs.Common.{◌≡◌, ◌⊎◌, inl, inr, ℕ, Option, List, refl, sym, subst}
use Rattle.std.proofs.lemmas.Bool.{cases_eq, eq-eqb, ne_eqb}
use Rattle.disk_model.specs.Files.{Files}
use Rattle.disk_model.specs.Worlds.{World}
use Rattle.disk_model.specs.Told.{IsWorldOf, CanLeave}
use Rattle.disk_model.specs.Moments.{AddsOnly}
use Rattle.volume_layout.specs.Paths.{IsBlockId}
use Rattle.map_model.specs.World.{DraftsAside}
use Rattle.map_model.specs.Cells.{Replica, Cell, Cells}
use Rattle.map_model.specs.Copies.{Spot, BlockFiles, block_files, IsCopy, IsAlone, OneWhole}
use Rattle.map_model.specs.Allows.{Allows, AllowsFiles, AllowsImage}
use Rattle.map_model.specs.Sound.{Knowledge, nothing, matching, Fits, HasSoundCopies, IsSoundBy}
use Rattle.map_model.specs.Slots.{View, files_in, view_of}
use Rattle.map_model.specs.Stands.{BlockBooks, BlockStands}
use Rattle.map_model.specs.Steps.{Command, Reply, Room, Step}
use Rattle.map_model.proofs.Bridge.{image_files}
use Rattle.map_model.proofs.LawProofs.{block_allows}
use Rattle.map_model.proofs.Soundness.{block_is_sound}
use Rattle.pool_state.specs.Reaching.{ComesFrom, Reaches}
use Rattle.pool_state.specs.Answers.{AllowedByEither, TakesStep, IsQuiet}
use Rattle.pool_state.specs.Stands.{with_cell, PoolStands}
use Rattle.pool_state.proofs.Changing.{Leads}
use Rattle.pool_state.proofs.Whole.{IsWholeIn, block_whole}

-- an image is allowed by the cells before or after, its copies match, and each is whole
pub record Shown (known : Knowledge) (before after : Cells) (image : Files) : Type 0 where
  pub allowed : AllowedByEither before after image
  pub matching : IsSoundBy (Fits known) image
  pub whole : OneWhole image

-- of images, no more is added at the beginning
pub begins : (past : ℕ → Files → Type 0) (P : Files → Type 0) → AddsOnly past past P
begins past P t image s = inl s

-- a call adds what can be left after it
pub calls : {past mid since : ℕ → Files → Type 0} {P : Files → Type 0} (told : Option (List World)) → AddsOnly past mid P →
    ((t : ℕ) (image : Files) → since t image → mid t image ⊎ CanLeave told image) → ((image : Files) → CanLeave told image → P image) → AddsOnly past since P
calls told adds time shows t image s = elim (time t image s) [
  | inl earlier ↦ adds t image earlier
  | inr now ↦ inr (shows image now)
]

-- what is added has a weaker property
pub adds_less : {past since : ℕ → Files → Type 0} {P Q : Files → Type 0} → AddsOnly past since P → ((image : Files) → P image → Q image) → AddsOnly past since Q
adds_less adds weaken t image s = elim (adds t image s) [
  | inl earlier ↦ inl earlier
  | inr now ↦ inr (weaken image now)
]

-- two tenures, one after the other
pub adds_join : {past mid since : ℕ → Files → Type 0} {P : Files → Type 0} → AddsOnly past mid P → AddsOnly mid since P → AddsOnly past since P
adds_join first second t image s = elim (second t image s) [
  | inl earlier ↦ first t image earlier
  | inr now ↦ inr now
]

module _ {told : Option (List World)} {volumes : ℕ} {books : ℕ → BlockBooks} {known : Knowledge} {cells : Cells}
    (stands : PoolStands told volumes books known cells) (id : ℕ) (valid : IsBlockId id) where
  -- At a moment the block's files stand for some cell, a copy of it is whole, and what the cell allows is allowed by the cell
  -- before or by this one.
  pub record At (after : View) (cell : Cell) : Type 0 where
    pub books_then : BlockBooks
    pub mid : Cell
    pub stood : BlockStands (Fits known id) after books_then mid
    pub whole : IsWholeIn after
    pub allows : (read : Option Replica) → Allows mid read → Allows (cells id) read ⊎ Allows cell read

  abbrev pub Passes : (View → View → Type 0) → Cell → Type 0
  Passes step cell = (before after : View) → step before after → BlockStands (Fits known id) before (books id) (cells id) → At after cell

  -- by the books and the cell that a step leads to
  pub passes : {step : View → View → Type 0} {now : BlockBooks} {mid cell : Cell} → Leads known id volumes step (books id) (cells id) now mid →
      ((read : Option Replica) → Allows mid read → Allows (cells id) read ⊎ Allows cell read) → Passes step cell
  passes {now = now} {mid = mid} leads allows before after stepped was = record {
    books_then = now;
    mid = mid;
    stood = leads.own before after stepped was;
    whole = block_whole (Fits known id) after now mid leads.fit (leads.own before after stepped was);
    allows = allows;
  }

  -- at the end they stand for the cell itself
  pub passes_end : {step : View → View → Type 0} {now : BlockBooks} {cell : Cell} → Leads known id volumes step (books id) (cells id) now cell → Passes step cell
  passes_end leads = passes leads (λ read allows. inr allows)

  -- where nothing changes
  pub stays : Leads known id volumes (λ before after. after ≡ before) (books id) (cells id) (books id) (cells id)
  stays = record {
    fit = stands.fit id valid;
    own = λ before after stepped was. subst (λ (v : View). BlockStands (Fits known id) v (books id) (cells id)) (sym stepped) was;
  }

  pub stays_passes : Passes (λ before after. after ≡ before) (cells id)
  stays_passes = passes_end stays

  module _ (step : View → View → Type 0) (told' : Option (List World)) (reaches : Reaches id step told told') where
    came : (world : World) → IsWorldOf told' world → ComesFrom id step told world
    came world is = reaches.each world is

    aside_then : (world : World) → IsWorldOf told' world → DraftsAside world
    aside_then world is = let from : ComesFrom id step told world = came world is in from.aside (stands.aside from.was from.is)

    -- another block's files allow what its cell allows, match, and are whole
    others_allow : (world : World) (is : IsWorldOf told' world) (other : ℕ) → IsBlockId other → (id ≡ other → ⊥) →
        AllowsFiles (cells other) (files_in (view_of world other)) × (HasSoundCopies (Fits known other) (files_in (view_of world other)) × IsWholeIn (view_of world other))
    others_allow world is other valid_other apart =
        let from : ComesFrom id step told world = came world is in
        let own = stands.blocks from.was from.is other valid_other in
        subst (λ (v : View). AllowsFiles (cells other) (files_in v) × (HasSoundCopies (Fits known other) (files_in v) × IsWholeIn v)) (sym (from.others other valid_other apart)) (
          block_allows (Fits known other) (view_of from.was other) (books other) (cells other) own,
          (
            block_is_sound (Fits known other) (view_of from.was other) (books other) (cells other) own,
            block_whole (Fits known other) (view_of from.was other) (books other) (cells other) (stands.fit other valid_other) own,
          ),
        )

    module _ (cell : Cell) (passes : Passes step cell) where
      own_allow : (world : World) (is : IsWorldOf told' world) →
          (AllowsFiles (cells id) (files_in (view_of world id)) ⊎ AllowsFiles cell (files_in (view_of world id)))
          × (HasSoundCopies (Fits known id) (files_in (view_of world id)) × IsWholeIn (view_of world id))
      own_allow world is =
          let from : ComesFrom id step told world = came world is in
          let at : At (view_of world id) cell = passes (view_of from.was id) (view_of world id) from.stepped (stands.blocks from.was from.is id valid) in
          let allows = block_allows (Fits known id) (view_of world id) at.books_then at.mid at.stood in (
            elim (at.allows allows.read allows.allowed) [
              | inl before ↦ inl (record { read = allows.read; reads = allows.reads; allowed = before })
              | inr after ↦ inr (record { read = allows.read; reads = allows.reads; allowed = after })
            ],
            (block_is_sound (Fits known id) (view_of world id) at.books_then at.mid at.stood, at.whole),
          )

      -- what a crash can leave at this moment
      pub shown : (image : Files) → CanLeave told' image → Shown known cells (with_cell cells id cell) image
      shown image leaves =
          let world : World = leaves.0 in
          let is = leaves.1 in
          let files : (other : ℕ) → block_files image other ≡ files_in (view_of world other) = λ other. image_files world image other (aside_then world is) leaves.2 in
          let own = own_allow world is in
          let at : (c : Cell) → AllowsFiles c (files_in (view_of world id)) → (other : ℕ) → IsBlockId other →
          AllowsFiles (with_cell cells id c other) (block_files image other) = λ c allows other valid_other.
          subst (λ (f : BlockFiles). AllowsFiles (with_cell cells id c other) f) (sym (files other))
          (elim (cases_eq other id) [
            | inl same ↦ rw (eq-eqb other id same) (subst (λ n. AllowsFiles c (files_in (view_of world n))) (sym same) allows)
            | inr apart ↦ rw (ne_eqb other id apart) (others_allow world is other valid_other (λ e. apart (sym e))).0
          ]) in
          record {
            allowed = elim own.0 [
              | inl before ↦ inl (λ other valid_other. elim (cases_eq other id) [
                | inl same ↦ subst (λ (f : BlockFiles). AllowsFiles (cells other) f) (sym (files other)) (subst (λ n. AllowsFiles (cells n) (files_in (view_of world n))) (sym same) before)
                | inr apart ↦ subst (λ (f : BlockFiles). AllowsFiles (cells other) f) (sym (files other)) (others_allow world is other valid_other (λ e. apart (sym e))).0
              ])
              | inr after ↦ inr (at cell after)
            ];
            matching = λ other valid_other. subst (λ (f : BlockFiles). HasSoundCopies (Fits known other) f) (sym (files other))
                (elim (cases_eq other id) [
                  | inl same ↦ subst (λ n. HasSoundCopies (Fits known n) (files_in (view_of world n))) (sym same) own.1.0
                  | inr apart ↦ (others_allow world is other valid_other (λ e. apart (sym e))).1.0
                ]);
            whole = λ other valid_other. subst (λ (f : BlockFiles). (spot : Spot) (replica : Replica) → IsCopy f spot replica → IsAlone f spot) (sym (files other))
                (elim (cases_eq other id) [
                  | inl same ↦ subst (λ n. IsWholeIn (view_of world n)) (sym same) own.1.1
                  | inr apart ↦ (others_allow world is other valid_other (λ e. apart (sym e))).1.1
                ]);
          }

-- A step of the cells, from what holds whatever is known of the meta files, and what more is known then.
pub takes_learning : (learn : Knowledge → Knowledge) → learn matching ≡ matching → {room : Room} {id : ℕ} {command : Command} {answer : Reply} {Says : Cell → Type 0} {cells : Cells}
    {Stood StandsFor : Knowledge → Cells → Type 0} {past since : ℕ → Files → Type 0}
    (cell : Cell) → Step room (cells id) command answer cell → Says cell →
    ((known : Knowledge) → Stood known cells → StandsFor known (with_cell cells id cell) × AddsOnly past since (Shown (learn known) cells (with_cell cells id cell))) →
    Stood nothing cells → TakesStep room id command answer Says cells Stood StandsFor past since × AddsOnly past since OneWhole
takes_learning learn same cell step says run stood = (
  record {
    to = record { cell = cell; step = step; says = says; stands = λ known old. (run known old).0 };
    images = adds_less (run nothing stood).1 (λ image shows. shows.allowed);
    sound_images = λ old. adds_less (run matching old).1 (λ image shows. subst (λ (k : Knowledge). IsSoundBy (Fits k) image) same shows.matching);
  },
  adds_less (run nothing stood).1 (λ image shows. shows.whole),
)

-- a step after which no more is known
pub takes : {room : Room} {id : ℕ} {command : Command} {answer : Reply} {Says : Cell → Type 0} {cells : Cells} {Stood StandsFor : Knowledge → Cells → Type 0} {past since : ℕ → Files → Type 0}
    (cell : Cell) → Step room (cells id) command answer cell → Says cell →
    ((known : Knowledge) → Stood known cells → StandsFor known (with_cell cells id cell) × AddsOnly past since (Shown known cells (with_cell cells id cell))) →
    Stood nothing cells → TakesStep room id command answer Says cells Stood StandsFor past since × AddsOnly past since OneWhole
takes = takes_learning (λ known. known) refl

-- an image that the cells allow, that matches, and each of whose copies is whole
pub record Quiet (known : Knowledge) (cells : Cells) (image : Files) : Type 0 where
  pub allowed : AllowsImage cells image
  pub matching : IsSoundBy (Fits known) image
  pub whole : OneWhole image

pub rests : {cells : Cells} {Stood StandsFor : Knowledge → Cells → Type 0} {past since : ℕ → Files → Type 0} →
    ((known : Knowledge) → Stood known cells → StandsFor known cells × AddsOnly past since (Quiet known cells)) →
    Stood nothing cells → IsQuiet cells Stood StandsFor past since × AddsOnly past since OneWhole
rests run stood = (
  record {
    stands = λ known old. (run known old).0;
    images = adds_less (run nothing stood).1 (λ image shows. shows.allowed);
    sound_images = λ old. adds_less (run matching old).1 (λ image shows. shows.matching);
  },
  adds_less (run nothing stood).1 (λ image shows. shows.whole),
)
