-- Places that are cleared in order.
use Rattle.std.proofs.Common.{◌≡◌, ◌<◌, ◌≤◌, ◌+◌, ℕ, List, [], ◌∷◌, ◌++◌, Option, take, drop, get_or, length, Contains, inl, inr, refl, ap, sym, ◌∙◌, subst}
use Rattle.std.proofs.lemmas.List.{take_more, take_all, take-append-drop}
use Rattle.std.proofs.lemmas.List.Elements.{Contains-append_left}
use Rattle.disk_model.specs.Files.{Files}
use Rattle.disk_model.specs.Worlds.{World, removed}
use Rattle.disk_model.specs.Told.{InEachWorld, StandsBeforeOrAfter, PicksOne, CanLeave}
use Rattle.disk_model.proofs.Laws.{from_done}
use Rattle.pool_open.specs.Plan.{Place}
use Rattle.pool_open.specs.Clearing.{Clears, AreClear, ComesCleared, LeftCleared, cleared, ComesAllCleared, ComesInOrder, LeftInOrder}
use Rattle.pool_open.proofs.Placed.{none_in, first_in, later_in, in_cases}
use Rattle.pool_open.proofs.Removals.{IsClear, nowhere, clears_none, clears_more, clear_here, clear_stays}

-- one more at the end
pub cleared_put : (places : List Place) (place : Place) (world : World) → cleared (places ++ place ∷ []) world ≡ removed place.0 place.1 (cleared places world)
cleared_put [] place world = refl
cleared_put (first ∷ places) place world = cleared_put places place (removed first.0 first.1 world)

pub cleared_next : (places : List Place) (at : ℕ) (place : Place) → at < length places → get_or places at nowhere ≡ place → (world : World) →
    cleared (take (at + 1) places) world ≡ removed place.0 place.1 (cleared (take at places) world)
cleared_next places at place below is world =
    ap (λ (l : List Place). cleared l world) (take_more places at nowhere below)
    ∙ cleared_put (take at places) (get_or places at nowhere) world
    ∙ ap (λ (p : Place). removed p.0 p.1 (cleared (take at places) world)) is

-- ---- what is cleared

clears_all : (all places : List Place) (was now : World) → ((place : Place) → Contains places place → Contains all place) → Clears all was now → Clears all was (cleared places now)
clears_all all [] was now within clears = clears
clears_all all (place ∷ places) was now within clears =
    clears_all all places was (removed place.0 place.1 now) (λ other has. within other (later_in place places other has))
    (clears_more all place.0 place.1 (within place (first_in place places)) was now clears)

pub clears_cleared : (places : List Place) (was : World) → Clears places was (cleared places was)
clears_cleared places was = clears_all places places was was (λ place has. has) (clears_none places was)

stays_clear : (places : List Place) (world : World) (place : Place) → IsClear world place → IsClear (cleared places world) place
stays_clear [] world place clear = clear
stays_clear (first ∷ places) world place clear = stays_clear places (removed first.0 first.1 world) place (clear_stays first.0 first.1 world place clear)

pub is_cleared : (places : List Place) (world : World) (place : Place) → Contains places place → IsClear (cleared places world) place
is_cleared [] world place has = absurd (none_in place has)
is_cleared (first ∷ places) world place has = elim (in_cases first places place has) [
  | inl here ↦ stays_clear places (removed first.0 first.1 world) place (subst (λ (p : Place). IsClear (removed first.0 first.1 world) p) here (clear_here first.0 first.1 world))
  | inr later ↦ is_cleared places (removed first.0 first.1 world) place later
]

pub are_cleared : (places : List Place) (world : World) → AreClear places (cleared places world)
are_cleared places world vol path has = is_cleared places world (vol, path) has

-- the first of some places are among them
pub taken_in : {X : Type 0} (xs : List X) (count : ℕ) (x : X) → Contains (take count xs) x → Contains xs x
taken_in {X} xs count x has = subst (λ (l : List X). Contains l x) (take-append-drop count xs) (Contains-append_left (take count xs) (drop count xs) x has)

pub front_clears : (places : List Place) (count : ℕ) (was : World) → Clears places was (cleared (take count places) was)
front_clears places count was = clears_all places (take count places) was was (λ place has. taken_in places count place has) (clears_none places was)

-- in whichever order
pub comes_cleared : (places : List Place) (old : Option (List World)) (now : World) → ComesInOrder places old now → ComesCleared places old now
comes_cleared places old now comes = (comes.0, comes.1, subst (λ (w : World). Clears places comes.0 w) (sym comes.3) (front_clears places comes.2 comes.0))

pub left_cleared : (places : List Place) (old : Option (List World)) (image : Files) → LeftInOrder places old image → LeftCleared places old image
left_cleared places old image left = (left.0, comes_cleared places old left.0 left.1, left.2)

pub all_cleared : (places : List Place) (old : Option (List World)) (now : World) → ComesAllCleared places old now → ComesCleared places old now
all_cleared places old now comes = (comes.0, comes.1, subst (λ (w : World). Clears places comes.0 w) (sym comes.2) (clears_cleared places comes.0))

pub all_clear_now : (places : List Place) (old : Option (List World)) (now : World) → ComesAllCleared places old now → AreClear places now
all_clear_now places old now comes = subst (λ (w : World). AreClear places w) (sym comes.2) (are_cleared places comes.0)

-- ---- one place after the other

-- so many of the places were cleared
abbrev pub ComesTaken : List Place → (at : ℕ) → Option (List World) → World → Type 0
ComesTaken places at old now = ComesAllCleared (take at places) old now

pub comes_none : (places : List Place) (old : Option (List World)) → InEachWorld old (ComesTaken places 0 old)
comes_none places old world is = (world, is, refl)

pub taken_in_order : (places : List Place) (at : ℕ) (old new : Option (List World)) → InEachWorld new (ComesTaken places at old) → InEachWorld new (ComesInOrder places old)
taken_in_order places at old new taken world is = let from = taken world is in (from.0, from.1, at, from.2)

pub taken_all : (places : List Place) (at : ℕ) (old new : Option (List World)) → length places ≤ at → InEachWorld new (ComesTaken places at old) → InEachWorld new (ComesAllCleared places old)
taken_all places at old new past taken world is =
    let from = taken world is in (from.0, from.1, from.2 ∙ ap (λ (l : List Place). cleared l from.0) (take_all at places past))

module _ (places : List Place) (at : ℕ) (v : ℕ) (path : List ℕ) (below : at < length places) (here : get_or places at nowhere ≡ (v, path)) (first old new : Option (List World)) where
  -- a removal, whatever it answers
  pub order_more : StandsBeforeOrAfter (removed v path) old new → InEachWorld old (ComesTaken places at first) → InEachWorld new (ComesInOrder places first)
  order_more call comes world is =
      let from = call.each world is in
      let before = comes from.0 from.1 in
      elim from.2 [
        | inl same ↦ (before.0, before.1, at, same ∙ before.2)
        | inr removed_it ↦ (before.0, before.1, at + 1, removed_it ∙ ap (removed v path) before.2 ∙ sym (cleared_next places at (v, path) below here before.0))
      ]

  -- one that was done
  pub taken_more : {HasAnswer : World → Type 0} → PicksOne HasAnswer (removed v path) old new → InEachWorld old (ComesTaken places at first) → InEachWorld new (ComesTaken places (at + 1) first)
  taken_more call comes world is =
      let from = from_done call world is in
      let before = comes from.0 from.1 in
      (before.0, before.1, from.3 ∙ ap (removed v path) before.2 ∙ sym (cleared_next places at (v, path) below here before.0))

  pub left_in_order : InEachWorld new (ComesInOrder places first) → (image : Files) → CanLeave new image → LeftInOrder places first image
  left_in_order comes image leaves = (leaves.0, comes leaves.0 leaves.1, leaves.2)
