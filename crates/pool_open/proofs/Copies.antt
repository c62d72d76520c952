-- The copies of a block, place after place, and what an opening makes of them.
use Rattle.std.proofs.Common.{◌≡◌, ℕ, List, [], ◌∷◌, ◌++◌, Option, None, Some, get_or, ap, sym, ◌∙◌, subst, Contains}
use Rattle.std.specs.Prelude.{IsSome}
use Rattle.std.proofs.lemmas.List.Elements.{All-weaker, All-push, All-from_get_or, Contains-get_or, Contains-append_left, Contains-append_right}
use Rattle.std.specs.Vec.{vec_items}
use Rattle.std.specs.declared.alloc.Global.{Global}
use Rattle.std.specs.declared.vec.Vec.{Vec}
use Rattle.disk_model.specs.Worlds.{World}
use Rattle.disk_model.proofs.Laws.{has_one}
use Rattle.volume_layout.specs.Paths.{block_path}
use Rattle.dup_resolve.specs.declared.CopyRow.{CopyRow}
use Rattle.dup_resolve.specs.Picks.{IsAtLeast, IsPicked}
use Rattle.pool_survey.specs.Remaining.{Remains}
use Rattle.pool_survey.specs.declared.places.FoundOn.{FoundOn}
use Rattle.pool_open.specs.declared.outcome.Outcome.{Outcome}
use Rattle.pool_open.specs.declared.outcome.Outcome.TheVariants.{Final, Waiting, Absent}
use Rattle.pool_open.specs.Plan.{copy_stamp}
use Rattle.pool_open.specs.Found.{IsSizeOf, IsCopyFound, HasCopyOn, AreCopies, IsKept, IsOutcome}

-- the places without a copy, or with one on its volume
abbrev IsListed : List CopyRow → FoundOn → Type 0
IsListed copies on = IsSome (copy_stamp on.files) → HasCopyOn copies on.vol

-- where calls only looked
found_still : (told after : Option (List World)) → Remains told after → (id : ℕ) (places : List FoundOn) (copy : CopyRow) → IsCopyFound told id places copy → IsCopyFound after id places copy
found_still told after remains id places copy is =
    record { on = is.on; found = is.found; vol = is.vol; stamp = is.stamp; size = λ world of. is.size world (remains world of) }

pub copies_still : (told after : Option (List World)) → Remains told after → (id : ℕ) (places : List FoundOn) (copies : List CopyRow) → AreCopies told id places copies → AreCopies after id places copies
copies_still told after remains id places copies are = record {
  each = All-weaker (IsCopyFound told id places) (IsCopyFound after id places) (found_still told after remains id places) copies are.each;
  all = are.all;
}

kept_still : (told after : Option (List World)) → Remains told after → (id : ℕ) (places : List FoundOn) (copy : CopyRow) → IsKept told id places copy → IsKept after id places copy
kept_still told after remains id places copy is =
    record { copies = is.copies; are = copies_still told after remains id places is.copies is.are; one_of = is.one_of; greatest = is.greatest }

pub outcome_still : (outcome : Outcome) (told after : Option (List World)) → Remains told after → (id : ℕ) (places : List FoundOn) →
    IsOutcome told id places outcome → IsOutcome after id places outcome
outcome_still (Final copy) told after remains id places is = kept_still told after remains id places copy is
outcome_still Waiting told after remains id places is = is
outcome_still Absent told after remains id places is = is

module _ (told : Option (List World)) (id : ℕ) (places : List FoundOn) (on : FoundOn) where
  found_later : (copy : CopyRow) → IsCopyFound told id places copy → IsCopyFound told id (places ++ on ∷ []) copy
  found_later copy is = record { on = is.on; found = Contains-append_left places (on ∷ []) is.on is.found; vol = is.vol; stamp = is.stamp; size = is.size }

  -- a place without a copy
  pub copies_passed : (copies : List CopyRow) → copy_stamp on.files ≡ None → AreCopies told id places copies → AreCopies told id (places ++ on ∷ []) copies
  copies_passed copies none are = record {
    each = All-weaker (IsCopyFound told id places) (IsCopyFound told id (places ++ on ∷ [])) found_later copies are.each;
    all = All-push (IsListed copies) places on are.all (λ some. absurd (cc (subst (λ (o : Option ℕ). IsSome o) none some)));
  }

  -- a place with one
  module _ (copies : List CopyRow) (copy : CopyRow) (vol : on.vol ≡ copy.vol) (stamp : copy_stamp on.files ≡ Some copy.stamp) (size : IsSizeOf told copy.vol (block_path id) copy.len) where
    has_here : HasCopyOn (copies ++ copy ∷ []) on.vol
    has_here = (copy, Contains-append_right copies (copy ∷ []) copy (has_one copy), sym vol)

    listed_later : (other : FoundOn) → IsListed copies other → IsListed (copies ++ copy ∷ []) other
    listed_later other listed some =
        let has = listed some in
        (has.0, Contains-append_left copies (copy ∷ []) has.0 has.1, has.2)

    pub copies_put : AreCopies told id places copies → AreCopies told id (places ++ on ∷ []) (copies ++ copy ∷ [])
    copies_put are = record {
      each = All-push (IsCopyFound told id (places ++ on ∷ [])) copies copy
          (All-weaker (IsCopyFound told id places) (IsCopyFound told id (places ++ on ∷ [])) found_later copies are.each)
          (record { on = on; found = Contains-append_right places (on ∷ []) on (has_one on); vol = vol; stamp = stamp; size = size });
      all = All-push (IsListed (copies ++ copy ∷ [])) places on
          (All-weaker (IsListed copies) (IsListed (copies ++ copy ∷ [])) listed_later places are.all)
          (λ some. has_here);
    }

-- the copy that is picked is kept
pub picked_kept : (told : Option (List World)) (id : ℕ) (places : List FoundOn) (copies : List CopyRow) (index : ℕ) (copy : CopyRow) → copy ≡ get_or copies index copy →
    IsPicked copies None index → AreCopies told id places copies → IsKept told id places copy
picked_kept told id places copies index copy is picked are = record {
  copies = copies;
  are = are;
  one_of = subst (λ (c : CopyRow). Contains copies c) (sym is) (Contains-get_or copies index copy picked.0);
  greatest = All-from_get_or (IsAtLeast None copy) copies copy
      (λ k below. subst (λ (c : CopyRow). IsAtLeast None c (get_or copies k copy)) (sym is) (picked.1 k copy below));
}

-- the same disks, places and copies
pub copies_same : (told after : Option (List World)) (id : ℕ) (places others : List FoundOn) (copies rows : List CopyRow) → after ≡ told → others ≡ places → rows ≡ copies →
    AreCopies told id places copies → AreCopies after id others rows
copies_same told after id places others copies rows same_told same_places same_copies are =
    subst (λ (t : Option (List World)). AreCopies t id others rows) (sym same_told)
    (subst (λ (l : List FoundOn). AreCopies told id l rows) (sym same_places)
    (subst (λ (l : List CopyRow). AreCopies told id places l) (sym same_copies) are))

-- the items of what is the same vector
pub items_same : (one other : Vec CopyRow Global) (items : List CopyRow) → one ≡ other → other.items ≡ items → one.items ≡ items
items_same one other items same is = ap vec_items same ∙ is
