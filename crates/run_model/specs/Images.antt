-- What the images that a crash can leave hold: after each line, and at every moment.
use Rattle.std.specs.Prelude.{ℕ, ◌⊎◌, List, [], ◌∷◌}
use Rattle.disk_model.specs.Files.{Files}
use Rattle.disk_model.specs.Moments.{Passes, AddsOnly}
use Rattle.disk_model.specs.Marks.{Mark}
use Rattle.map_model.specs.Cells.{Cells}
use Rattle.map_model.specs.Allows.{AllowsImage}
use Rattle.map_model.specs.Copies.{OneWhole}
use Rattle.map_model.specs.Sound.{IsSound}
use Rattle.pool_state.specs.Answers.{AllowedByEither}
use Rattle.run_model.specs.State.{RunState, Turn, last_state}

-- the cells of this state allow the image, or those after one of the lines
abbrev pub AllowedByOne : RunState → List Turn → Files → Type 0
AllowedByOne state [] image = AllowsImage state.cells image
AllowedByOne state (turn ∷ turns) image = AllowsImage state.cells image ⊎ AllowedByOne turn.state turns image

-- Each image that some moment from this one on could have left is allowed by the cells of this state, or by those after
-- one of the lines. `since t image` says that some moment from t on could have left the image.
abbrev pub AllowedSince : (since : ℕ → Files → Type 0) → ℕ → RunState → List Turn → Type 0
AllowedSince since t state turns = (image : Files) → since t image → AllowedByOne state turns image

-- what some moment from this one on could have left, the cells of this state allow, and it has one whole copy of each
-- block
abbrev pub AllowedFrom : (since : ℕ → Files → Type 0) → Mark → RunState → Type 0
AllowedFrom since mark state = (image : Files) → since mark.moment image → AllowsImage state.cells image × OneWhole image

-- What some moment from a line's beginning on could have left: the cells before the line or after it allow it, and it
-- has one whole copy of each block; or some moment from the line's end on could have left it.
abbrev pub AllowedByLine : (since : ℕ → Files → Type 0) → Mark → RunState → Turn → Type 0
AllowedByLine since mark state turn = (image : Files) → since mark.moment image →
    (AllowedByEither state.cells turn.state.cells image × OneWhole image) ⊎ since turn.mark.moment image

-- so it is of each line; and what some moment from the end of the last one on could have left, the cells after it allow
abbrev pub AllowedByEach : (since : ℕ → Files → Type 0) → Mark → RunState → List Turn → Type 0
AllowedByEach since mark state [] = AllowedFrom since mark state
AllowedByEach since mark state (turn ∷ turns) = AllowedByLine since mark state turn × AllowedByEach since turn.mark turn.state turns

-- What a crash can leave while one line is carried out: the cells before it or after it allow it, and of each block one
-- whole copy stands at most. `Sound cells` says that the pool stands for the cells with meta files that match.
pub record CrashSafe (before after : Cells) (Sound SoundNow : Cells → Type 0) (past since : ℕ → Files → Type 0) : Type 0 where
  pub images : AddsOnly past since (AllowedByEither before after)
  pub sound : Sound before → SoundNow after
  pub sound_images : Sound before → AddsOnly past since IsSound
  pub whole : AddsOnly past since OneWhole

-- What a crash can leave while the pool is opened again, where that isn't done: the cells before it allow it.
pub record StaysCrashSafe (before : Cells) (Sound : Cells → Type 0) (past since : ℕ → Files → Type 0) : Type 0 where
  pub images : AddsOnly past since (AllowsImage before)
  pub sound_images : Sound before → AddsOnly past since IsSound
  pub whole : AddsOnly past since OneWhole

-- What a crash can leave while lines are carried out.
pub record LinesCrashSafe (before : Mark) (state : RunState) (turns : List Turn) (Sound SoundNow : Cells → Type 0) (past since : ℕ → Files → Type 0) : Type 0 where
  pub passes : Passes before.moment past since
  pub each : AllowedByEach since before state turns
  pub sound : Sound state.cells → SoundNow (last_state state turns).cells
  pub sound_images : Sound state.cells → AddsOnly past since IsSound
