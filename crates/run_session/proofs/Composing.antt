-- A write of a whole block: a start, a push and an end, as one step.
use Rattle.std.proofs.Common.{◌≡◌, inl, inr, ℕ, List, [], None, refl, sym, ◌∙◌, ap, subst}
use mathlib.Core.Path.{fun_ext}
use Rattle.std.proofs.lemmas.Bool.{cases_eq, eq-eqb, ne_eqb}
use Rattle.disk_model.specs.Files.{Files}
use Rattle.disk_model.specs.Moments.{AddsOnly}
use Rattle.map_model.specs.Cells.{Cell, Cells, absent, growing}
use Rattle.map_model.specs.Allows.{AllowsFiles, AllowsImage}
use Rattle.map_model.specs.Copies.{BlockFiles, block_files, OneWhole}
use Rattle.map_model.specs.Sound.{Knowledge, matching, IsSound}
use Rattle.map_model.specs.Steps.{Command, Room, Reply as Answer}
use Rattle.pool_state.specs.Answers.{StepsTo, TakesStep}
use Rattle.pool_state.specs.Stands.{with_cell}
use Rattle.run_model.specs.Images.{CrashSafe}

-- a cell that is changed again
pub with_cell-again : (cells : Cells) (id : ℕ) (first second : Cell) → with_cell (with_cell cells id first) id second ≡ with_cell cells id second
with_cell-again cells id first second = fun_ext (λ other. elim (cases_eq other id) [
  | inl same ↦ rw (eq-eqb other id same) refl
  | inr apart ↦ rw (ne_eqb other id apart) refl
])

-- An absent block grows; until it is ended nothing is read of it.
pub record Grows (id : ℕ) (cells : Cells) (cell : Cell) (Stood StandsFor : Knowledge → Cells → Type 0) (past since : ℕ → Files → Type 0) : Type 0 where
  pub stands : (known : Knowledge) → Stood known cells → StandsFor known (with_cell cells id cell)
  pub images : AddsOnly past since (AllowsImage cells)
  pub sound_images : Stood matching cells → AddsOnly past since IsSound
  pub whole_images : AddsOnly past since OneWhole

-- what a growing block without a base allows, an absent one does
grown_allows : (cell : Cell) (stamp left : ℕ) (bytes : List ℕ) (files : BlockFiles) → cell ≡ growing stamp None bytes left → AllowsFiles cell files → AllowsFiles absent files
grown_allows cell stamp left bytes files is allows =
    let at : AllowsFiles (growing stamp None bytes left) files = subst (λ c. AllowsFiles c files) is allows in record { read = at.read; reads = at.reads; allowed = at.allowed }

pub still_absent : (cells : Cells) (id : ℕ) (cell : Cell) (stamp left : ℕ) (bytes : List ℕ) (image : Files) → cells id ≡ absent → cell ≡ growing stamp None bytes left →
    AllowsImage (with_cell cells id cell) image → AllowsImage cells image
still_absent cells id cell stamp left bytes image was is allows other valid = elim (cases_eq other id) [
  | inl same ↦
      let here : AllowsFiles cell (block_files image other) = subst (λ c. AllowsFiles c (block_files image other)) (rw (eq-eqb other id same) refl) (allows other valid) in
      subst (λ c. AllowsFiles c (block_files image other)) (sym (ap cells same ∙ was)) (grown_allows cell stamp left bytes (block_files image other) is here)
  | inr apart ↦ subst (λ c. AllowsFiles c (block_files image other)) (rw (ne_eqb other id apart) refl) (allows other valid)
]

-- after the start
pub grows_started : {room : Room} {id : ℕ} {command : Command} {answer : Answer} {SaysOf : Cell → Type 0} {cells : Cells} {Stood StandsFor : Knowledge → Cells → Type 0} {past since : ℕ → Files → Type 0}
    (start : TakesStep room id command answer SaysOf cells Stood StandsFor past since) → AddsOnly past since OneWhole → (stamp left : ℕ) → cells id ≡ absent → start.to.cell ≡ growing stamp None [] left →
    Grows id cells start.to.cell Stood StandsFor past since
grows_started {id} {cells = cells} start whole stamp left was is = record {
  stands = start.to.stands;
  images = λ t image s. elim (start.images t image s) [
    | inl earlier ↦ inl earlier
    | inr (inl before) ↦ inr before
    | inr (inr after) ↦ inr (still_absent cells id start.to.cell stamp left [] image was is after)
  ];
  sound_images = start.sound_images;
  whole_images = whole;
}

-- after a push
pub grows_pushed : {room : Room} {id : ℕ} {command : Command} {answer : Answer} {SaysOf : Cell → Type 0} {cells : Cells} {cell : Cell} {Stood StandsFor Then : Knowledge → Cells → Type 0} {past since : ℕ → Files → Type 0} →
    Grows id cells cell Stood StandsFor past since → (push : StepsTo room id command answer SaysOf (with_cell cells id cell) StandsFor Then) → Grows id cells push.cell Stood Then past since
grows_pushed {id} {cells = cells} {cell = cell} {Then = Then} grows push = record {
  stands = λ known old. subst (Then known) (with_cell-again cells id cell push.cell) (push.stands known (grows.stands known old));
  images = grows.images;
  sound_images = grows.sound_images;
  whole_images = grows.whole_images;
}

-- and it is ended
module _ {room : Room} {id : ℕ} {command : Command} {answer : Answer} {SaysOf : Cell → Type 0} {cells : Cells} {cell : Cell} {Stood Between StandsFor : Knowledge → Cells → Type 0} {past mid since : ℕ → Files → Type 0}
    (grows : Grows id cells cell Stood Between past mid) (end : TakesStep room id command answer SaysOf (with_cell cells id cell) Between StandsFor mid since) where
  pub ended_stands : (known : Knowledge) → Stood known cells → StandsFor known (with_cell cells id end.to.cell)
  ended_stands known old = subst (StandsFor known) (with_cell-again cells id cell end.to.cell) (end.to.stands known (grows.stands known old))

  pub ended_safe : AddsOnly mid since OneWhole → (stamp left : ℕ) (bytes : List ℕ) → cells id ≡ absent → cell ≡ growing stamp None bytes left → CrashSafe cells (with_cell cells id end.to.cell) (Stood matching) (StandsFor matching) past since
  ended_safe whole stamp left bytes was is = record {
    images = λ t image s. elim (end.images t image s) [
      | inl earlier ↦ elim (grows.images t image earlier) [ inl first ↦ inl first | inr allows ↦ inr (inl allows) ]
      | inr (inl before) ↦ inr (inl (still_absent cells id cell stamp left bytes image was is before))
      | inr (inr after) ↦ inr (inr (subst (λ (cs : Cells). AllowsImage cs image) (with_cell-again cells id cell end.to.cell) after))
    ];
    sound = ended_stands matching;
    sound_images = λ old t image s. elim (end.sound_images (grows.stands matching old) t image s) [
      | inl earlier ↦ grows.sound_images old t image earlier
      | inr is_sound ↦ inr is_sound
    ];
    whole = λ t image s. elim (whole t image s) [
      | inl earlier ↦ grows.whole_images t image earlier
      | inr is_whole ↦ inr is_whole
    ];
  }

-- where metas that match still do
pub safe_then : {before after : Cells} {Sound : Cells → Type 0} (StandsFor : Knowledge → Cells → Type 0) {past since : ℕ → Files → Type 0} {then : Knowledge} → then ≡ matching →
    CrashSafe before after Sound (StandsFor then) past since → CrashSafe before after Sound (StandsFor matching) past since
safe_then {before} {after} {Sound} StandsFor {past} {since} same safe = subst (λ (k : Knowledge). CrashSafe before after Sound (StandsFor k) past since) same safe
