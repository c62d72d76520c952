-- What an opening has prepared, and what comes of it.
use Rattle.std.proofs.Common.{◌≢◌, inl, inr, ℕ, List, [], Option, None, Some, length, ap, sym, ◌∙◌, subst, IsSome}
use Rattle.std.specs.declared.vec.Vec.{Vec}
use Rattle.std.specs.declared.alloc.Global.{Global}
use Rattle.disk_model.specs.Files.{Files}
use Rattle.disk_model.specs.Worlds.{World}
use Rattle.disk_model.specs.Told.{InEachWorld, StandsWithin}
use Rattle.disk_model.specs.Moments.{AddsOnly}
use Rattle.map_model.specs.World.{DraftsAside}
use Rattle.pool_state.specs.Books.{block_books}
use Rattle.pool_survey.specs.Places.{ArePoolBlocks}
use Rattle.pool_open.specs.declared.preparing.Prepared.{Prepared}
use Rattle.pool_open.specs.Prepared.{IsPrepared}
use Rattle.pool_open.specs.Plan.{places_at, kept_in}
use Rattle.pool_open.specs.Clearing.{AreOnVolumes, AreClear, ComesAllCleared, ComesCleared, LeftInOrder}
use Rattle.pool_open.specs.Ours.{AreOurs}
use Rattle.pool_open.specs.Outcome.{ReadsAsOne, Opens}
use Rattle.pool_open.proofs.Lists.{listed_found}
use Rattle.pool_open.proofs.Opened.{plan_of}
use Rattle.pool_open.proofs.Ordered.{all_cleared, all_clear_now, left_cleared}
use Rattle.pool_open.proofs.Down.{blocks_down}
use Rattle.pool_open.proofs.Gated.{IsGated, every, Meanwhile, meanwhile_before, gated_opens}
use Rattle.pool_open.proofs.Ours.{plan_ours}
use Rattle.pool_open.proofs.SurplusPlaces.{surplus_on_volumes, surplus_ours}
use Rattle.pool_open.proofs.Ending.{none_told, plan_on_volumes, kept_volume}

module _ {before after : Option (List World)} {past now : ℕ → Files → Type 0} {volumes first_rev : ℕ} {prepared : Prepared}
    (are : IsPrepared before after past now volumes first_rev prepared) where
  -- ---- the places

  blocks_left : ArePoolBlocks volumes are.table.blocks
  blocks_left = blocks_down volumes are.found are.table are.blocks are.brought_down are.ids

  pub surplus_there : AreOnVolumes volumes (places_at prepared.surplus.items)
  surplus_there = subst (AreOnVolumes volumes) (sym are.surplus_are) (surplus_on_volumes volumes are.found are.blocks are.listed)

  pub surplus_are_ours : AreOurs (places_at prepared.surplus.items)
  surplus_are_ours = subst AreOurs (sym are.surplus_are) (surplus_ours volumes are.found are.blocks are.listed)

  pub places_there : AreOnVolumes volumes (places_at prepared.places.items)
  places_there = subst (AreOnVolumes volumes) (sym are.places_are) (plan_on_volumes volumes are.table blocks_left are.table_listed (kept_in prepared.map)
      (ap (λ (names : Vec (List (List ℕ)) Global). length names.items) are.temporary ∙ are.counted))

  pub places_are_ours : AreOurs (places_at prepared.places.items)
  places_are_ours = subst AreOurs (sym are.places_are) (plan_ours volumes are.table blocks_left are.table_listed (kept_in prepared.map))

  -- ---- what comes of clearing them

  module _ (aside : InEachWorld before DraftsAside) (honest : IsSome before → IsSome after) (some : after ≢ Some []) (within : StandsWithin volumes after) where
    gated : IsGated are.found are.table before are.surveyed after volumes (block_books prepared.map)
    gated = record {
      some_volume = are.some_volume;
      call = are.call;
      blocks = are.blocks;
      listed = λ id places has. listed_found are.found.blocks are.listed id places has;
      brought = are.brought_down;
      temporary = are.temporary;
      ids = are.ids;
      table_listed = λ id places has. listed_found are.table.blocks are.table_listed id places has;
      aside = aside;
      remains = are.remains;
      honest = λ tells. honest (are.call.honest.1 tells);
      some = some;
      within = within;
      says = are.says;
    }

    -- where the first places were cleared up to one that failed
    pub images_first : (since : ℕ → Files → Type 0) → AddsOnly now since (LeftInOrder (places_at prepared.surplus.items) after) → AddsOnly past since (ReadsAsOne before)
    images_first since images t image left = elim (images t image left) [
      | inr front ↦ inr (reads (inr (inl (subst (λ (l : _). LeftInOrder l after image) are.surplus_are front))))
      | inl earlier ↦ elim (are.images t image earlier) [ inl before ↦ inl before | inr leaves ↦ inr (reads (inl leaves)) ]
    ]
      where
        reads : Meanwhile are.found are.table before are.surveyed after volumes (block_books prepared.map) gated (kept_in prepared.map) (λ id. kept_volume prepared.map id) None None
            (none_told (ComesAllCleared (every are.found are.table before are.surveyed after volumes (block_books prepared.map) gated) after))
            (none_told (ComesCleared (plan_of (kept_in prepared.map) are.table) None)) (none_told (AreClear (plan_of (kept_in prepared.map) are.table))) image → ReadsAsOne before image
        reads meanwhile = meanwhile_before are.found are.table before are.surveyed after volumes (block_books prepared.map) gated (kept_in prepared.map) (λ id. kept_volume prepared.map id) None None
            (none_told (ComesAllCleared (every are.found are.table before are.surveyed after volumes (block_books prepared.map) gated) after))
            (none_told (ComesCleared (plan_of (kept_in prepared.map) are.table) None)) (none_told (AreClear (plan_of (kept_in prepared.map) are.table))) image meanwhile

    module _ (third : Option (List World)) (third_is : InEachWorld third (ComesAllCleared (places_at prepared.surplus.items) after)) where
      third_down : InEachWorld third (ComesAllCleared (every are.found are.table before are.surveyed after volumes (block_books prepared.map) gated) after)
      third_down = subst (λ (l : _). InEachWorld third (ComesAllCleared l after)) are.surplus_are third_is

      module _ (last : Option (List World)) (comes : InEachWorld last (ComesCleared (plan_of (kept_in prepared.map) are.table) third)) (clear : InEachWorld last (AreClear (plan_of (kept_in prepared.map) are.table)))
          (between since : ℕ → Files → Type 0) (first_images : AddsOnly now between (LeftInOrder (places_at prepared.surplus.items) after))
          (then_images : AddsOnly between since (LeftInOrder (places_at prepared.places.items) third)) where
        meanwhile : AddsOnly past since (Meanwhile are.found are.table before are.surveyed after volumes (block_books prepared.map) gated (kept_in prepared.map) (λ id. kept_volume prepared.map id) third last
            third_down comes clear)
        meanwhile t image left = elim (then_images t image left) [
          | inr cleared ↦ inr (inr (inr (left_cleared (plan_of (kept_in prepared.map) are.table) third image (subst (λ (l : _). LeftInOrder l third image) are.places_are cleared))))
          | inl earlier ↦ elim (first_images t image earlier) [
            | inr front ↦ inr (inr (inl (subst (λ (l : _). LeftInOrder l after image) are.surplus_are front)))
            | inl first ↦ elim (are.images t image first) [ inl before ↦ inl before | inr leaves ↦ inr (inl leaves) ]
          ]
        ]

        images_by : AddsOnly past since (ReadsAsOne before)
        images_by t image left = elim (meanwhile t image left) [
          | inl earlier ↦ inl earlier
          | inr it ↦ inr (meanwhile_before are.found are.table before are.surveyed after volumes (block_books prepared.map) gated (kept_in prepared.map) (λ id. kept_volume prepared.map id) third last
              third_down comes clear image it)
        ]

        opens_by : Opens before last volumes (block_books prepared.map) past since
        opens_by = gated_opens are.found are.table before are.surveyed after volumes (block_books prepared.map) gated (kept_in prepared.map) (λ id. kept_volume prepared.map id) third last
            third_down comes clear past since meanwhile

      -- where all others were cleared too, or up to one that failed
      pub images_all : (between since : ℕ → Files → Type 0) → AddsOnly now between (LeftInOrder (places_at prepared.surplus.items) after) → AddsOnly between since (LeftInOrder (places_at prepared.places.items) third) →
          AddsOnly past since (ReadsAsOne before)
      images_all between since first_images then_images = images_by None (none_told (ComesCleared (plan_of (kept_in prepared.map) are.table) third)) (none_told (AreClear (plan_of (kept_in prepared.map) are.table)))
          between since first_images then_images

      pub opens_all : (last : Option (List World)) → InEachWorld last (ComesAllCleared (places_at prepared.places.items) third) → (between since : ℕ → Files → Type 0) →
          AddsOnly now between (LeftInOrder (places_at prepared.surplus.items) after) → AddsOnly between since (LeftInOrder (places_at prepared.places.items) third) →
          Opens before last volumes (block_books prepared.map) past since
      opens_all last last_is between since first_images then_images =
          let all : InEachWorld last (ComesAllCleared (plan_of (kept_in prepared.map) are.table) third) = subst (λ (l : _). InEachWorld last (ComesAllCleared l third)) are.places_are last_is in
          opens_by last (λ world is. all_cleared (plan_of (kept_in prepared.map) are.table) third world (all world is)) (λ world is. all_clear_now (plan_of (kept_in prepared.map) are.table) third world (all world is))
          between since first_images then_images
