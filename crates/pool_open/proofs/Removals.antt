-- One more place is cleared.
use Rattle.std.proofs.Common.{◌≡◌, ◌<◌, ◌≤◌, ◌+◌, ◌==◌, inl, inr, ℕ, Bool, true, false, cond, List, [], Option, Contains, get_or, length, refl, ap, sym, ◌∙◌, subst, arith, below_more}
use Rattle.std.proofs.lemmas.Bool.{eq-eqb}
use Rattle.std.proofs.lemmas.List.Elements.{All-contains, All-from_get_or}
use Rattle.disk_model.specs.Files.{Files, is_place}
use Rattle.disk_model.specs.Worlds.{World, removed}
use Rattle.disk_model.specs.Told.{InEachWorld, StandsBeforeOrAfter, PicksOne, CanLeave}
use Rattle.disk_model.proofs.Laws.{from_done}
use Rattle.map_model.specs.Slots.{empty, slot_at}
use Rattle.map_model.proofs.Places.{is_place-parts, is_place-path, slot_removed}
use Rattle.map_model.proofs.Aside.{aside_removed}
use Rattle.pool_open.specs.Plan.{Place}
use Rattle.pool_open.specs.Clearing.{IsKeptOrCleared, Clears, AreClear, ComesCleared, LeftCleared}

-- nothing stands at a place
abbrev pub IsClear : World → Place → Type 0
IsClear world place = slot_at world place.0 place.1 ≡ empty

-- a place without a path
abbrev pub nowhere : Place
nowhere = (0, [])

pub clears_none : (places : List Place) (world : World) → Clears places world world
clears_none places world = record { each = λ vol path. inl refl; aside = λ aside. aside }

same_place : (places : List Place) (v vol : ℕ) (path other : List ℕ) → v ≡ vol → path ≡ other → Contains places (v, path) → Contains places (vol, other)
same_place places v vol path other same_vol same_path has =
    subst (λ (p : List ℕ). Contains places (vol, p)) same_path (subst (λ (n : ℕ). Contains places (n, path)) same_vol has)

module _ (places : List Place) (v : ℕ) (path : List ℕ) (has : Contains places (v, path)) (was now : World) (clears : Clears places was now) where
  clears_at : (vol : ℕ) (other : List ℕ) (b : Bool) → is_place v path vol other ≡ b →
      IsKeptOrCleared places (vol, other) (slot_at was vol other) (slot_at (removed v path now) vol other)
  clears_at vol other true here =
      let parts = is_place-parts v path vol other here in
      inr (
        slot_removed v path now vol other ∙ ap (λ c. cond c empty (slot_at now vol other)) here,
        same_place places v vol path other parts.0 parts.1 has,
      )
  clears_at vol other false away =
      let same : slot_at (removed v path now) vol other ≡ slot_at now vol other = slot_removed v path now vol other ∙ ap (λ c. cond c empty (slot_at now vol other)) away in
      elim (clears.each vol other) [
        | inl kept ↦ inl (same ∙ kept)
        | inr gone ↦ inr (same ∙ gone.0, gone.1)
      ]

  pub clears_more : Clears places was (removed v path now)
  clears_more = record {
    each = λ vol other. clears_at vol other (is_place v path vol other) refl;
    aside = λ aside. aside_removed v path now (clears.aside aside);
  }

same_volume : (v : ℕ) → (v == v) ≡ true
same_volume v = eq-eqb v v refl

pub clear_here : (v : ℕ) (path : List ℕ) (now : World) → slot_at (removed v path now) v path ≡ empty
clear_here v path now = slot_removed v path now v path ∙ ap (λ c. cond c empty (slot_at now v path)) (is_place-path v path v ∙ same_volume v)

stays_when : (v : ℕ) (path : List ℕ) (vol : ℕ) (other : List ℕ) (now : World) (b : Bool) → is_place v path vol other ≡ b → slot_at now vol other ≡ empty →
    slot_at (removed v path now) vol other ≡ empty
stays_when v path vol other now true here clear = slot_removed v path now vol other ∙ ap (λ c. cond c empty (slot_at now vol other)) here
stays_when v path vol other now false away clear = slot_removed v path now vol other ∙ ap (λ c. cond c empty (slot_at now vol other)) away ∙ clear

pub clear_stays : (v : ℕ) (path : List ℕ) (now : World) (other : Place) → IsClear now other → IsClear (removed v path now) other
clear_stays v path now other clear = stays_when v path other.0 other.1 now (is_place v path other.0 other.1) refl clear

module _ (places : List Place) (v : ℕ) (path : List ℕ) (has : Contains places (v, path)) (first old new : Option (List World)) where
  -- a removal, whatever it answers
  pub comes_more : StandsBeforeOrAfter (removed v path) old new → InEachWorld old (ComesCleared places first) → InEachWorld new (ComesCleared places first)
  comes_more call comes world is =
      let from = call.each world is in
      let before = comes from.0 from.1 in
      elim from.2 [
        | inl same ↦ subst (ComesCleared places first) (sym same) before
        | inr removed_it ↦ subst (ComesCleared places first) (sym removed_it) (before.0, before.1, clears_more places v path has before.0 from.0 before.2)
      ]

  -- and of what it leaves behind
  pub left_more : InEachWorld new (ComesCleared places first) → (image : Files) → CanLeave new image → LeftCleared places first image
  left_more comes image leaves = (leaves.0, comes leaves.0 leaves.1, leaves.2)

-- a removal that was done
pub clear_more : {HasAnswer : World → Type 0} {old new : Option (List World)} (places : List Place) (v : ℕ) (path : List ℕ) (at : ℕ) → get_or places at nowhere ≡ (v, path) →
    PicksOne HasAnswer (removed v path) old new → InEachWorld old (λ world. (k : ℕ) → k < at → IsClear world (get_or places k nowhere)) →
    InEachWorld new (λ world. (k : ℕ) → k < at + 1 → IsClear world (get_or places k nowhere))
clear_more places v path at here call clear world is =
    let from = from_done call world is in
    let before = clear from.0 from.1 in
    subst (λ (w : World). (k : ℕ) → k < at + 1 → IsClear w (get_or places k nowhere)) (sym from.3)
    (below_more (λ k. IsClear (removed v path from.0) (get_or places k nowhere)) at
    (λ k below. clear_stays v path from.0 (get_or places k nowhere) (before k below))
    (subst (λ (p : Place). IsClear (removed v path from.0) p) (sym here) (clear_here v path from.0)))

pub all_clear : (places : List Place) (at : ℕ) → length places ≤ at → (world : World) → ((k : ℕ) → k < at → IsClear world (get_or places k nowhere)) → AreClear places world
all_clear places at past world clear vol path has =
    All-contains (IsClear world) places (vol, path)
    (All-from_get_or (IsClear world) places nowhere (λ k below. clear k (omega (arith, below, past)))) has
