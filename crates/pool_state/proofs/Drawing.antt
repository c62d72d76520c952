-- A volume that is chosen for a fresh replica, and the revision that is drawn for it.
use Rattle.std.proofs.Common.{◌≡◌, ◌⊎◌, ◌+◌, ◌-◌, ◌<◌, ◌≤◌, inr, ℕ, suc, Bool, true, false, List, [], ◌∷◌, Option, None, Some, Result, Ok, length, drop, refl, ap, subst, arith, if◌then◌else◌}
use Rattle.std.specs.Prelude.{nat_le, nat_lt, IsSome}
use Rattle.map_model.specs.Stands.{BlockBooks}
use Rattle.pool_state.specs.declared.start_fault.StartFault.{StartFault}
use Rattle.pool_state.specs.declared.start_fault.StartFault.TheVariants.{Failed, Memory}
use Rattle.std.proofs.lemmas.Option.{same_Some}
use Rattle.std.proofs.lemmas.Bool.{leb-false, ltb-false}
use Rattle.std.proofs.lemmas.List.{length-drop}
use Rattle.pool_state.specs.Volumes.{IsVolume}
use Rattle.map_model.specs.Cells.{absent}
use Rattle.map_model.specs.Steps.{full, too_long, worn as is_worn_out, write_refusal, max_length}
use Rattle.pool_state.specs.Rooms.{Choosing, most_free, is_worn, room_by, first_fitting, volume_after, drawn}
use Rattle.pool_state.specs.BookSteps.{being_written, half_started, left_started, BooksNotStarted, BooksStarted}

-- the next revision, and the pointer behind the volume
pub drawn_by : (vol : ℕ) (choosing : Choosing) {pointer : ℕ} → pointer ≡ volume_after vol (length choosing.shares) →
    record { shares = choosing.shares; next_rev = choosing.next_rev + 1; pointer = pointer } ≡ drawn vol choosing
drawn_by vol choosing is = ap (λ p. record { shares = choosing.shares; next_rev = choosing.next_rev + 1; pointer = p }) is

-- what a start does to the books, by the volume that was chosen
module _ {vol : ℕ} (volume stamp need : ℕ) (was : Choosing) {now : Choosing} (old : BlockBooks) {new : BlockBooks} (is : vol ≡ volume) where
  pub failed_books : (new ≡ half_started vol was.next_rev stamp need) ⊎ (new ≡ left_started vol was.next_rev stamp need) → now ≡ drawn vol was →
      BooksNotStarted Failed volume stamp need was now old new
  failed_books leaves draws = subst (λ v. BooksNotStarted Failed v stamp need was now old new) is (leaves, draws)

  pub lacked_books : new ≡ half_started vol was.next_rev stamp need → now ≡ drawn vol was → BooksNotStarted Memory volume stamp need was now old new
  lacked_books leaves draws = subst (λ v. BooksNotStarted Memory v stamp need was now old new) is (inr (leaves, draws))

abbrev pub started : {W : Type 0} → W → Result W StartFault
started writer = Ok writer

pub started_books : {W : Type 0} (writer : W) {vol volume : ℕ} (stamp need block meta : ℕ) (was : Choosing) {now : Choosing} (old : BlockBooks) {new : BlockBooks} → vol ≡ volume →
    new ≡ being_written vol was.next_rev stamp need block meta → now ≡ drawn vol was → BooksStarted (started writer) volume stamp need was now old new
started_books writer stamp need block meta was {now} old {new} is leaves draws =
    subst (λ v. BooksStarted (started writer) v stamp need was now old new) is (block, meta, leaves, draws)

-- ---- the volume that is chosen

tested : (b : Bool) (vol v volumes : ℕ) (later : Option ℕ) → (later ≡ Some v → (vol + 1 ≤ v) × (v < vol + 1 + volumes)) → (if b then Some vol else later) ≡ Some v →
    (vol ≤ v) × (v < vol + suc volumes)
tested true vol v volumes later within is = let same : vol ≡ v = same_Some vol v is in (omega (arith, same), omega (arith, same))
tested false vol v volumes later within is = let there = within is in (omega (arith, there.0), omega (arith, there.1))

-- it is one of the volumes
pub fitting_within : (uses : ℕ → ℕ) (need vol : ℕ) (shares : List ℕ) (v : ℕ) → first_fitting uses need vol shares ≡ Some v → (vol ≤ v) × (v < vol + length shares)
fitting_within uses need vol [] v is = (let bad : None ≡ Some v = is in absurd cc)
fitting_within uses need vol (share ∷ shares) v is =
    tested (nat_le need (share - uses vol)) vol v (length shares) (first_fitting uses need (vol + 1) shares) (fitting_within uses need (vol + 1) shares v) is

-- among those from this one on
pub fitting_placed : (uses : ℕ → ℕ) (need from : ℕ) (shares : List ℕ) (v volumes : ℕ) → 1 ≤ from → length shares ≡ volumes →
    first_fitting uses need from (drop (from - 1) shares) ≡ Some v → IsVolume volumes v
fitting_placed uses need from shares v volumes low all is =
    let there = fitting_within uses need from (drop (from - 1) shares) v is in
    let few : length (drop (from - 1) shares) ≡ length shares - (from - 1) = length-drop (from - 1) shares in
    (omega (arith, there.0, low), omega (arith, there.0, there.1, few, low, all))

chosen_by : (b : Bool) (vol : ℕ) (later : Option ℕ) → (b ≡ false → IsSome later) → IsSome (if b then Some vol else later)
chosen_by true vol later some = refl
chosen_by false vol later some = some refl

-- where a volume has the bytes free, one is found
pub fitting_found : (uses : ℕ → ℕ) (need vol share : ℕ) (shares : List ℕ) → need ≤ most_free uses vol (share ∷ shares) → IsSome (first_fitting uses need vol (share ∷ shares))
fitting_found uses need vol share [] fits =
    chosen_by (nat_le need (share - uses vol)) vol None (λ not. let above = leb-false need (share - uses vol) not in absurd (omega (arith, fits, above)))
fitting_found uses need vol share (next ∷ shares) fits =
    chosen_by (nat_le need (share - uses vol)) vol (first_fitting uses need (vol + 1) (next ∷ shares))
    (λ not. let above = leb-false need (share - uses vol) not in fitting_found uses need (vol + 1) next shares (omega (arith, fits, above)))

-- a fresh replica that isn't refused fits, and a revision is left
refused_not : (long wide worn : Bool) (limit need free : ℕ) →
    (if long then Some (too_long limit) else (if wide then Some (full need free) else (if worn then Some is_worn_out else None))) ≡ None → (wide ≡ false) × (worn ≡ false)
refused_not true wide worn limit need free is = (let bad : Some (too_long limit) ≡ None = is in absurd cc)
refused_not false true worn limit need free is = (let bad : Some (full need free) ≡ None = is in absurd cc)
refused_not false false true limit need free is = (let bad : Some is_worn_out ≡ None = is in absurd cc)
refused_not false false false limit need free is = (refl, refl)

pub fits_and_left : (choosing : Choosing) (uses : ℕ → ℕ) (need : ℕ) → write_refusal (room_by choosing uses) absent need ≡ None →
    (nat_lt (most_free uses 1 choosing.shares) need ≡ false) × (is_worn choosing.next_rev ≡ false)
fits_and_left choosing uses need fits =
    refused_not (nat_lt max_length need) (nat_lt (most_free uses 1 choosing.shares) need) (is_worn choosing.next_rev) max_length need (most_free uses 1 choosing.shares) fits

-- so from the first volume on one is found
pub some_fitting : (choosing : Choosing) (uses : ℕ → ℕ) (need : ℕ) → 1 ≤ length choosing.shares → write_refusal (room_by choosing uses) absent need ≡ None →
    IsSome (first_fitting uses need 1 choosing.shares)
some_fitting choosing uses need some fits = of_shares choosing.shares some (fits_and_left choosing uses need fits).0
  where
    of_shares : (shares : List ℕ) → 1 ≤ length shares → nat_lt (most_free uses 1 shares) need ≡ false → IsSome (first_fitting uses need 1 shares)
    of_shares [] some wide = absurd (omega (arith, some))
    of_shares (share ∷ shares) some wide = fitting_found uses need 1 share shares (ltb-false (most_free uses 1 (share ∷ shares)) need wide)
