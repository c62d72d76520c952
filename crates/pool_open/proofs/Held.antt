-- The files of a block that waits, place after place.
use Rattle.std.proofs.Common.{◌≡◌, ◌≤◌, ℕ, Bool, true, false, List, [], ◌∷◌, ◌++◌, Option, None, Some, refl, ap, sym, ◌∙◌, subst, inl, inr, append_assoc, arith, Contains}
use Rattle.std.specs.Prelude.{MatchBool}
use Rattle.std.specs.Option.{is_some}
use Rattle.std.proofs.lemmas.Bool.{or_parts}
use Rattle.std.proofs.lemmas.Grind.{flat_map-append}
use Rattle.std.proofs.lemmas.List.Elements.{All-append, All-weaker, Contains-append_left, Contains-append_right}
use Rattle.disk_model.specs.Worlds.{World}
use Rattle.map_model.specs.Stands.{Leftover as BookLeftover}
use Rattle.replica_map.specs.declared.leftover.Leftover.{Leftover}
use Rattle.pool_survey.specs.Remaining.{Remains}
use Rattle.pool_survey.specs.declared.places.FoundOn.{FoundOn}
use Rattle.pool_open.specs.Plan.{leaves_block, leaves_some}
use Rattle.pool_open.specs.Found.{IsSizeOf, IsHeldOn, AreHeld, IsFirstLeft, IsSizeOfFirst, IsHeldFirst, AddsLeftovers, AddsHeldOn, AddsHeld, IsGreatestOf, IsGreatestStamp, first_path, writing_stamps, left_among}
use Rattle.pool_open.proofs.Lists.{nothing_more}

-- ---- leftovers that are put

pub adds_then : (id : ℕ) (one two : List BookLeftover) (old middle new : List Leftover) → AddsLeftovers id one old middle → AddsLeftovers id two middle new → AddsLeftovers id (one ++ two) old new
adds_then id one two old middle new first second = record {
  own = second.own ∙ ap (λ l. l ++ two) first.own ∙ append_assoc (left_among old id) one two;
  others = λ other apart. second.others other apart ∙ first.others other apart;
}

-- ---- files that are held

held_put : (told : Option (List World)) (id stamp : ℕ) (places : List FoundOn) (on : FoundOn) (left own : List BookLeftover) → AreHeld told id stamp places left →
    IsHeldOn told id stamp on own → AreHeld told id stamp (places ++ on ∷ []) (left ++ own)
held_put told id stamp [] on left own held here = (own, [], ap (λ l. l ++ own) held ∙ sym (nothing_more own), here, refl)
held_put told id stamp (first ∷ places) on left own held here = (
  held.0,
  held.1 ++ own,
  ap (λ l. l ++ own) held.2 ∙ append_assoc held.0 held.1 own,
  held.3,
  held_put told id stamp places on held.1 own held.4 here,
)

held_on_still : (told after : Option (List World)) → Remains told after → (id stamp : ℕ) (on : FoundOn) (left : List BookLeftover) → IsHeldOn told id stamp on left → IsHeldOn after id stamp on left
held_on_still told after remains id stamp on left held = record {
  block_len = held.block_len;
  writing_len = held.writing_len;
  is = held.is;
  block = λ there world of. held.block there world (remains world of);
  writing = λ there world of. held.writing there world (remains world of);
}

pub held_still : (told after : Option (List World)) → Remains told after → (id stamp : ℕ) (places : List FoundOn) (left : List BookLeftover) → AreHeld told id stamp places left → AreHeld after id stamp places left
held_still told after remains id stamp [] left held = held
held_still told after remains id stamp (on ∷ places) left held =
    (held.0, held.1, held.2, held_on_still told after remains id stamp on held.0 held.3, held_still told after remains id stamp places held.1 held.4)

-- one more place
pub adds_held_more : (told after : Option (List World)) → Remains told after → (id stamp : ℕ) (places : List FoundOn) (on : FoundOn) (old middle new : List Leftover) → AddsHeld told id stamp places old middle →
    AddsHeldOn after id stamp on middle new → AddsHeld after id stamp (places ++ on ∷ []) old new
adds_held_more told after remains id stamp places on old middle new before here = (
  before.0 ++ here.0,
  held_put after id stamp places on before.0 here.0 (held_still told after remains id stamp places before.0 before.1) here.1,
  adds_then id before.0 here.0 old middle new before.2 here.2,
)

-- ---- the first place where a block file stands

by_later : (leaves : Bool) (on first : FoundOn) {A B : Type 0} → (A → B) → MatchBool leaves (on ≡ first) A → MatchBool leaves (on ≡ first) B
by_later true on first f is = is
by_later false on first f is = f is

first_kept : (places : List FoundOn) (on first : FoundOn) → IsFirstLeft places first → IsFirstLeft (places ++ on ∷ []) first
first_kept [] on first is = absurd is
first_kept (one ∷ places) on first is = by_later (leaves_block one) one first (first_kept places on first) is

by_false : (leaves : Bool) (on first : FoundOn) (A : Type 0) → leaves ≡ false → A → MatchBool leaves (on ≡ first) A
by_false true on first A unset is = (let bad : true ≡ false = unset in absurd cc)
by_false false on first A unset is = is

by_true : (leaves : Bool) (on first : FoundOn) (A : Type 0) → leaves ≡ true → on ≡ first → MatchBool leaves (on ≡ first) A
by_true true on first A set is = is
by_true false on first A set is = (let bad : false ≡ true = set in absurd cc)

first_put : (places : List FoundOn) (on : FoundOn) → leaves_some places ≡ false → leaves_block on ≡ true → IsFirstLeft (places ++ on ∷ []) on
first_put [] on none leaves = by_true (leaves_block on) on on ⊥ leaves refl
first_put (one ∷ places) on none leaves =
    let parts = or_parts (leaves_block one) (leaves_some places) none in
    by_false (leaves_block one) one on (IsFirstLeft (places ++ on ∷ []) on) parts.0 (first_put places on parts.1 leaves)

none_put : (places : List FoundOn) (on : FoundOn) → leaves_some places ≡ false → leaves_block on ≡ false → leaves_some (places ++ on ∷ []) ≡ false
none_put [] on none leaves = rw leaves refl
none_put (one ∷ places) on none leaves =
    let parts = or_parts (leaves_block one) (leaves_some places) none in
    rw parts.0 (none_put places on parts.1 leaves)

-- the first one, where calls only looked
pub size_first_still : (told after : Option (List World)) → Remains told after → (id : ℕ) (places : List FoundOn) (vol len : ℕ) → IsSizeOfFirst told id places vol len → IsSizeOfFirst after id places vol len
size_first_still told after remains id places vol len is =
    record { first = is.first; is_first = is.is_first; vol_is = is.vol_is; size = λ world of. is.size world (remains world of) }

size_first_kept : (told : Option (List World)) (id : ℕ) (places : List FoundOn) (on : FoundOn) (vol len : ℕ) → IsSizeOfFirst told id places vol len → IsSizeOfFirst told id (places ++ on ∷ []) vol len
size_first_kept told id places on vol len is = record { first = is.first; is_first = first_kept places on is.first is.is_first; vol_is = is.vol_is; size = is.size }

module _ (told after : Option (List World)) (remains : Remains told after) (id : ℕ) (places : List FoundOn) (on : FoundOn) where
  -- a first one was found, and stays it
  pub first_found : (first : Option (ℕ × ℕ)) → is_some first ≡ true → IsHeldFirst told id places first → IsHeldFirst after id (places ++ on ∷ []) first
  first_found (Some found) some is = size_first_kept after id places on found.0 found.1 (size_first_still told after remains id places found.0 found.1 is)
  first_found None some is = (let bad : false ≡ true = some in absurd cc)

  -- none was found, and this isn't one
  pub first_not_yet : (first : Option (ℕ × ℕ)) → is_some first ≡ false → leaves_block on ≡ false → IsHeldFirst told id places first → IsHeldFirst after id (places ++ on ∷ []) first
  first_not_yet None none leaves is = none_put places on is leaves
  first_not_yet (Some found) none leaves is = (let bad : true ≡ false = none in absurd cc)

  -- none was found, and this is the first
  pub first_here : (first : Option (ℕ × ℕ)) (len : ℕ) → is_some first ≡ false → leaves_block on ≡ true → IsSizeOf after on.vol (first_path id on.files) len → IsHeldFirst told id places first →
      IsHeldFirst after id (places ++ on ∷ []) (Some (on.vol, len))
  first_here None len none leaves size is = record { first = on; is_first = first_put places on is leaves; vol_is = refl; size = size }
  first_here (Some found) len none leaves size is = (let bad : true ≡ false = none in absurd cc)

-- ---- the greatest stamp

stamps_put : (places : List FoundOn) (on : FoundOn) → writing_stamps (places ++ on ∷ []) ≡ writing_stamps places ++ on.files.writing_metas.items
stamps_put places on = flat_map-append (λ (f : FoundOn). f.files.writing_metas.items) places (on ∷ [])
    ∙ ap (λ l. writing_stamps places ++ l) (nothing_more on.files.writing_metas.items)

pub greatest_more : (places : List FoundOn) (on : FoundOn) (old new : ℕ) → IsGreatestStamp (writing_stamps places) old → IsGreatestOf old on.files.writing_metas.items new →
    IsGreatestStamp (writing_stamps (places ++ on ∷ [])) new
greatest_more places on old new before here = subst (λ (l : List ℕ). IsGreatestStamp l new) (sym (stamps_put places on)) (record {
  in_range = here.in_range;
  above = All-append (λ other. other ≤ new) (writing_stamps places) on.files.writing_metas.items
      (All-weaker (λ other. other ≤ old) (λ other. other ≤ new) (λ other less. omega (arith, less, here.at_least)) (writing_stamps places) before.above)
      here.above;
  one_of = elim here.one_of [
    | inl has ↦ inl (Contains-append_right (writing_stamps places) on.files.writing_metas.items new has)
    | inr same ↦ elim before.one_of [
      | inl has ↦ inl (Contains-append_left (writing_stamps places) on.files.writing_metas.items new (subst (λ n. Contains (writing_stamps places) n) (sym same) has))
      | inr one ↦ inr (same ∙ one)
    ]
  ];
})
