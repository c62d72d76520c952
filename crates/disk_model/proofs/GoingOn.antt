-- Disks that go on, one call after another.
use Rattle.std.proofs.Common.{◌≡◌, ℕ, ◌≤◌, ◌↔◌, inl, inr, IsSome, refl, ◌∙◌, arith}
use Rattle.disk_model.specs.declared.disks.PoolDisks.{Ghosts}
use Rattle.disk_model.specs.Files.{Files}
use Rattle.disk_model.specs.Told.{CanLeave}
use Rattle.disk_model.specs.Moments.{Elapses, Passes}
use Rattle.disk_model.specs.Marks.{GoesOn}

-- no time passes
pub passed_none : (before : ℕ) (past : ℕ → Files → Type 0) → Passes before past past
passed_none before past = record { keeps = λ t image left. left; adds = λ t image left. inl left }

-- over two runs of calls
pub passed_then : {before middle : ℕ} {first past since : ℕ → Files → Type 0} → before ≤ middle
    → Passes before first past → Passes middle past since → Passes before first since
passed_then later one two = record {
  keeps = λ t image left. two.keeps t image (one.keeps t image left);
  adds = λ t image left. elim (two.adds t image left) [
    | inr new ↦ inr (λ u early. new u (omega (arith, early, later)))
    | inl old ↦ elim (one.adds t image old) [
      | inl first ↦ inl first
      | inr new ↦ inr (λ u early. two.keeps u image (new u early))
    ]
  ];
}

-- over one call: what the disks can leave now counts since each moment up to now
pub passed_call : {before now : ℕ} {past since : ℕ → Files → Type 0} {can_leave : Files → Type 0} → Elapses before now past since can_leave
    → ((t : ℕ) (image : Files) → t ≤ now → can_leave image → since t image) → Passes before past since
passed_call time counts = record {
  keeps = time.keeps;
  adds = λ t image left. elim (time.nothing_else t image left) [
    | inl old ↦ inl old
    | inr here ↦ inr (λ u early. counts u image (omega (arith, early, time.later)) here)
  ];
}

module _ {D S T R : Type 0} (g : Ghosts D S T R) where
  pub went_same : (disks : D) → GoesOn g disks disks
  went_same disks = record {
    honest = (λ t. t, λ t. t);
    faults = omega arith;
    absences = omega arith;
    next_number = omega arith;
    moment = omega arith;
    passes = passed_none (g.moment disks) (g.left_since disks);
    volume_count = refl;
  }

  pub went_then : (first middle last : D) → GoesOn g first middle → GoesOn g middle last → GoesOn g first last
  went_then first middle last one two = record {
    honest = (λ t. two.honest.0 (one.honest.0 t), λ t. one.honest.1 (two.honest.1 t));
    faults = omega (arith, one.faults, two.faults);
    absences = omega (arith, one.absences, two.absences);
    next_number = omega (arith, one.next_number, two.next_number);
    moment = omega (arith, one.moment, two.moment);
    passes = passed_then one.moment one.passes two.passes;
    volume_count = two.volume_count ∙ one.volume_count;
  }

  -- one call
  pub went_call : {old new : D} → ((t : ℕ) (image : Files) → t ≤ g.moment new → CanLeave (g.worlds new) image → g.left_since new t image)
      → Elapses (g.moment old) (g.moment new) (g.left_since old) (g.left_since new) (CanLeave (g.worlds new))
      → IsSome (g.worlds old) ↔ IsSome (g.worlds new) → g.faults old ≤ g.faults new → g.absences old ≤ g.absences new
      → g.next_number old ≤ g.next_number new → g.volume_count new ≡ g.volume_count old → GoesOn g old new
  went_call counts time honest faults absences numbers volumes = record {
    honest = honest;
    faults = faults;
    absences = absences;
    next_number = numbers;
    moment = time.later;
    passes = passed_call time counts;
    volume_count = volumes;
  }
