-- What a crash can leave while lines are carried out, one after the other.
use Rattle.std.proofs.Common.{◌≡◌, ◌≤◌, inl, inr, ℕ, arith, List, [], ◌∷◌, ◌++◌, Option, refl, sym, subst}
use Rattle.disk_model.specs.Files.{Files}
use Rattle.disk_model.specs.Worlds.{World}
use Rattle.disk_model.specs.Told.{CanLeave}
use Rattle.disk_model.specs.Moments.{Passes}
use Rattle.disk_model.specs.declared.disks.PoolDisks.{Ghosts}
use Rattle.disk_model.specs.Marks.{Mark, IsLater, GoesOn, mark_of}
use Rattle.disk_model.proofs.GoingOn.{passed_then}
use Rattle.map_model.specs.Cells.{Cells}
use Rattle.map_model.specs.Allows.{AllowsImage}
use Rattle.map_model.specs.Sound.{Knowledge, matching, Fits, IsSound}
use Rattle.map_model.specs.Laws as model
use Rattle.map_model.proofs.LawProofs.{stands_allows}
use Rattle.map_model.proofs.Soundness.{stands_is_sound}
use Rattle.map_model.specs.Stands.{BlockBooks}
use Rattle.pool_state.specs.Stands.{PoolStands}
use Rattle.run_model.specs.State.{RunState, Turn, last_state, last_mark}
use Rattle.pool_state.proofs.Whole.{leaves_whole}
use Rattle.map_model.specs.Copies.{OneWhole}
use Rattle.run_model.specs.Commands.{any_disks}
use Rattle.run_model.specs.Lines.{Follows}
use Rattle.run_model.specs.Images.{AllowedByOne, AllowedByEach, LinesCrashSafe}

-- what the disks can leave now, the cells of the pool allow
pub leaves_allowed : {told : Option (List World)} {volumes : ℕ} {books : ℕ → BlockBooks} {known : Knowledge} {cells : Cells} → PoolStands told volumes books known cells →
    (image : Files) → CanLeave told image → AllowsImage cells image
leaves_allowed {told} {volumes} {books} {known} {cells} stands image leaves =
    let whole : model.PoolStands (Fits known) told books cells =
    λ world is. record { blocks = stands.blocks world is; aside = stands.aside world is } in
    stands_allows (Fits known) told books cells image whole leaves

-- and is sound where the meta files match
pub leaves_sound : {told : Option (List World)} {volumes : ℕ} {books : ℕ → BlockBooks} {cells : Cells} → PoolStands told volumes books matching cells →
    (image : Files) → CanLeave told image → IsSound image
leaves_sound {told} {volumes} {books} {cells} stands image leaves =
    let whole : model.PoolStands (Fits matching) told books cells =
    λ world is. record { blocks = stands.blocks world is; aside = stands.aside world is } in
    stands_is_sound (Fits matching) told books cells image whole leaves

-- what the disks can leave where the pool stands
pub leaves_safe : {told : Option (List World)} {volumes : ℕ} {books : ℕ → BlockBooks} {known : Knowledge} {cells : Cells} → PoolStands told volumes books known cells →
    (image : Files) → CanLeave told image → AllowsImage cells image × OneWhole image
leaves_safe stands image leaves = (leaves_allowed stands image leaves, leaves_whole stands image leaves)

-- and so what some moment from now on could have left
pub now_safe : {told : Option (List World)} {volumes : ℕ} {books : ℕ → BlockBooks} {known : Knowledge} {cells : Cells} {since : Files → Type 0} → PoolStands told volumes books known cells →
    ((image : Files) → since image → CanLeave told image) → (image : Files) → since image → AllowsImage cells image × OneWhole image
now_safe stands only image s = leaves_safe stands image (only image s)

-- the counts of disks that went on
pub counts_on : {D S T R : Type 0} {g : Ghosts D S T R} {old new : D} → GoesOn g old new → IsLater (mark_of g old) (mark_of g new)
counts_on on = record { faults = on.faults; absences = on.absences; next_number = on.next_number; moment = on.moment }

-- what is allowed now is allowed by one of the lines' cells
pub first_allowed : (state : RunState) (turns : List Turn) (image : Files) → AllowsImage state.cells image → AllowedByOne state turns image
first_allowed state [] image allows = allows
first_allowed state (turn ∷ turns) image allows = inl allows

-- and so is what some moment from the first line on could have left
pub each_allowed : (since : ℕ → Files → Type 0) (mark : Mark) (state : RunState) (turns : List Turn) (image : Files) → AllowedByEach since mark state turns →
    since mark.moment image → AllowedByOne state turns image
each_allowed since mark state [] image each s = (each image s).0
each_allowed since mark state (turn ∷ turns) image each s = elim (each.0 image s) [
  | inl here ↦ elim here.0 [ inl before ↦ inl before | inr after ↦ inr (first_allowed turn.state turns image after) ]
  | inr later ↦ inr (each_allowed since turn.mark turn.state turns image each.1 later)
]

-- which has one whole copy of each block
pub each_whole : (since : ℕ → Files → Type 0) (mark : Mark) (state : RunState) (turns : List Turn) (image : Files) → AllowedByEach since mark state turns → since mark.moment image → OneWhole image
each_whole since mark state [] image each s = (each image s).1
each_whole since mark state (turn ∷ turns) image each s = elim (each.0 image s) [ inl here ↦ here.1 | inr later ↦ each_whole since turn.mark turn.state turns image each.1 later ]

-- the moment doesn't fall over lines
pub later_moment : (Faulty : ℕ → ℕ → Type 0) (mark : Mark) (state : RunState) (turns : List Turn) → Follows any_disks Faulty state mark turns → mark.moment ≤ (last_mark mark turns).moment
later_moment Faulty mark state [] follows = omega arith
later_moment Faulty mark state (turn ∷ turns) follows = let rest = later_moment Faulty turn.mark turn.state turns follows.1 in omega (arith, rest, follows.0.counts.moment)

-- lines behind lines
each_on : (Faulty : ℕ → ℕ → Type 0) {mid since : ℕ → Files → Type 0} (mark now : Mark) (state : RunState) (turns more : List Turn) → last_mark mark turns ≡ now →
    Follows any_disks Faulty state mark turns → Passes now.moment mid since → AllowedByEach mid mark state turns →
    AllowedByEach since now (last_state state turns) more → AllowedByEach since mark state (turns ++ more)
each_on Faulty {since = since} mark now state [] more at follows passes each rest = subst (λ m. AllowedByEach since m state more) (sym at) rest
each_on Faulty mark now state (turn ∷ turns) more at follows passes each rest = (
  λ image s. elim (passes.adds mark.moment image s) [
    | inl earlier ↦ elim (each.0 image earlier) [ inl allowed ↦ inl allowed | inr after ↦ inr (passes.keeps turn.mark.moment image after) ]
    | inr new ↦ inr (new turn.mark.moment (subst (λ (m : Mark). turn.mark.moment ≤ m.moment) at (later_moment Faulty turn.mark turn.state turns follows.1)))
  ],
  each_on Faulty turn.mark now turn.state turns more at follows.1 passes each.1 rest,
)

last_after : (state : RunState) (turns more : List Turn) → last_state state (turns ++ more) ≡ last_state (last_state state turns) more
last_after state [] more = refl
last_after state (turn ∷ turns) more = last_after turn.state turns more

pub crash_on : (Faulty : ℕ → ℕ → Type 0) {mark now : Mark} {state : RunState} {turns more : List Turn} {Sound Between SoundNow : Cells → Type 0} {past mid since : ℕ → Files → Type 0} →
    last_mark mark turns ≡ now → Follows any_disks Faulty state mark turns → LinesCrashSafe mark state turns Sound Between past mid →
    LinesCrashSafe now (last_state state turns) more Between SoundNow mid since → LinesCrashSafe mark state (turns ++ more) Sound SoundNow past since
crash_on Faulty {mark = mark} {now = now} {state = state} {turns = turns} {more = more} {SoundNow = SoundNow} at follows first second = record {
  passes = passed_then (subst (λ (m : Mark). mark.moment ≤ m.moment) at (later_moment Faulty mark state turns follows)) first.passes second.passes;
  each = each_on Faulty mark now state turns more at follows second.passes first.each second.each;
  sound = λ sound. subst (λ (s : RunState). SoundNow s.cells) (sym (last_after state turns more)) (second.sound (first.sound sound));
  sound_images = λ sound t image s. elim (second.sound_images (first.sound sound) t image s) [
    | inl earlier ↦ first.sound_images sound t image earlier
    | inr is ↦ inr is
  ];
}
