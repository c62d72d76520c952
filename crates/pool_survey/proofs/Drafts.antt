-- A draft that is settled elsewhere.
use Rattle.std.proofs.Common.{◌≡◌, ℕ, List, not, sym, subst}
use Rattle.std.specs.Prelude.{IsFalse}
use Rattle.disk_model.specs.Worlds.{DraftPlace, World, draft_at, has_draft, stands_at, drafts_without, published}
use Rattle.disk_model.specs.Places.{any_filter_false, any_dropped}

-- no draft is left where it stood
pub settled_away : (draft : DraftPlace) (number vol : ℕ) (path bytes target : List ℕ) (world : World) → draft ≡ draft_at number vol path →
    IsFalse (has_draft (published draft bytes target world) vol path)
settled_away draft number vol path bytes target world at =
    subst (λ d. IsFalse (has_draft (published d bytes target world) vol path)) (sym at)
    (any_filter_false (stands_at vol path) (λ d. not (stands_at vol target d)) (drafts_without world vol path) (any_dropped (stands_at vol path) world.drafts))
