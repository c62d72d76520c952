-- What the calls of names do at one place.
use Rattle.std.proofs.Common.{◌≡◌, ℕ, inl, inr, List, [], ◌∷◌, Bool, true, false, not, refl, sym, subst, arith, eq-eqb, Option, None, Some, filter}
use Rattle.std.specs.List.{list_any}
use Rattle.std.proofs.lemmas.Bool.{cases_Bool, and_from, and_parts, eqb-true}
use Rattle.std.proofs.lemmas.Slice.Eq.{bytes_eq-Decides}
use Rattle.disk_model.specs.Files.{is_place}
use Rattle.disk_model.specs.Worlds.{DraftPlace, World, Holds, stands_at, created, removed, settled_at, published}

pub is_place_self : (vol : ℕ) (path : List ℕ) → is_place vol path vol path ≡ true
is_place_self vol path = and_from _ _ (eq-eqb vol vol refl) ((bytes_eq-Decides path path).1 refl)

pub same_place : (vol : ℕ) (path : List ℕ) (v : ℕ) (p : List ℕ) → is_place vol path v p ≡ true → (vol ≡ v) × (path ≡ p)
same_place vol path v p is = let parts = and_parts _ _ is in (eqb-true vol v parts.0, (bytes_eq-Decides path p).0 parts.1)

pub any_filter_false : {X : Type 0} (test keep : X → Bool) (xs : List X) → list_any test xs ≡ false → list_any test (filter keep xs) ≡ false
any_filter_false test keep [] none = none
any_filter_false test keep (x ∷ xs) none =
    let rest : list_any test xs ≡ false = grind arith in
    let filtered = any_filter_false test keep xs rest in
    elim (cases_Bool (keep x)) [ inl kept ↦ rw kept (grind arith) | inr dropped ↦ rw dropped filtered ]

pub any_dropped : {X : Type 0} (test : X → Bool) (xs : List X) → list_any test (filter (λ x. not (test x)) xs) ≡ false
any_dropped test [] = refl
any_dropped test (x ∷ xs) =
    let rest = any_dropped test xs in
    elim (cases_Bool (test x)) [ inl passes ↦ rw passes rest | inr fails ↦ rw fails (rw fails rest) ]

module _ (vol : ℕ) (path : List ℕ) (content : Option (List ℕ)) where
  -- a draft that is made elsewhere
  pub holds_created : (draft : DraftPlace) (world : World) → is_place draft.vol draft.path vol path ≡ false
      → Holds vol path content world → Holds vol path content (created draft world)
  holds_created draft world other holds = record { file = rw other holds.file; no_draft = rw other holds.no_draft }

  pub holds_removed : (v : ℕ) (p : List ℕ) (world : World) → is_place v p vol path ≡ false
      → Holds vol path content world → Holds vol path content (removed v p world)
  holds_removed v p world other holds = record { file = rw other holds.file; no_draft = any_filter_false _ _ world.drafts holds.no_draft }

  pub holds_settled : (v : ℕ) (p : List ℕ) (bytes : List ℕ) (world : World) → is_place v p vol path ≡ false
      → Holds vol path content world → Holds vol path content (settled_at v p bytes world)
  holds_settled v p bytes world other holds = record { file = rw other holds.file; no_draft = any_filter_false _ _ world.drafts holds.no_draft }

pub holds_at : (vol : ℕ) (path bytes : List ℕ) (world : World) → Holds vol path (Some bytes) (settled_at vol path bytes world)
holds_at vol path bytes world = record { file = rw (is_place_self vol path) refl; no_draft = any_dropped (stands_at vol path) world.drafts }

pub holds_published : (draft : DraftPlace) (bytes target : List ℕ) (world : World) → Holds draft.vol target (Some bytes) (published draft bytes target world)
holds_published draft bytes target world = holds_at draft.vol target bytes (removed draft.vol draft.path world)

-- nothing is left where something was taken away
pub gone : (vol : ℕ) (path : List ℕ) (world : World) → Holds vol path None (removed vol path world)
gone vol path world = record { file = rw (is_place_self vol path) refl; no_draft = any_dropped (stands_at vol path) world.drafts }

pub gone_at : (vol : ℕ) (path : List ℕ) (v : ℕ) (p : List ℕ) (world : World) → is_place v p vol path ≡ true → Holds vol path None (removed v p world)
gone_at vol path v p world here =
    let same = same_place v p vol path here in
    subst (λ n. Holds vol path None (removed n p world)) (sym same.0) (subst (λ (q : List ℕ). Holds vol path None (removed vol q world)) (sym same.1) (gone vol path world))
