-- The files of a block from which metas that don't count were taken away in order: they read as they did.
use Rattle.std.proofs.Common.{◌≡◌, ◌⊎◌, ◌<◌, ◌≤◌, inl, inr, ℕ, Bool, true, false, List, Option, None, Some, refl, ap, sym, ◌∙◌, subst, arith}
use Rattle.std.specs.Prelude.{IsSome, IsSomeAnd, is_some}
use Rattle.std.proofs.lemmas.Bool.{false≢true, cases_Bool}
use Rattle.volume_layout.specs.Choice.{IsOnly, IsSecond, GateKeeps}
use Rattle.map_model.specs.Cells.{Replica}
use Rattle.map_model.specs.Copies.{Spot, BlockFiles, HasMeta, KeepsStamp, IsCopy, IsGreatestCopy, ReadsAs, IsAlone}
use Rattle.map_model.specs.Sound.{HasSoundCopies}
use Rattle.map_model.proofs.OneReading.{KeepsStamp-unique}
use Rattle.map_model.proofs.Readings.{KeepsStamp-meta}

-- Beside a block file the meta that counts stays, and a greater one goes only when no smaller one is left.
pub record IsThinned (was now : BlockFiles) : Type 0 where
  pub block : (spot : Spot) → now.block spot ≡ was.block spot
  pub writing : (vol : ℕ) → now.writing vol ≡ was.writing vol
  pub less : (spot : Spot) (stamp : ℕ) → HasMeta now spot stamp → HasMeta was spot stamp
  pub kept : (spot : Spot) (stamp : ℕ) → IsSome (was.block spot) → KeepsStamp was spot stamp → now.meta spot stamp ≡ was.meta spot stamp
  pub ordered : (spot : Spot) (stamp top : ℕ) → IsSome (was.block spot) → KeepsStamp was spot stamp → stamp < top → HasMeta was spot top →
      HasMeta now spot top ⊎ ((other : ℕ) → other < stamp → HasMeta now spot other → ⊥)
  pub some : (spot : Spot) (stamp : ℕ) → IsSome (was.block spot) → HasMeta was spot stamp → (kept : ℕ) × KeepsStamp was spot kept

module _ (was now : BlockFiles) (thin : IsThinned was now) where
  -- ---- the stamp that counts

  module _ (spot : Spot) (stamp : ℕ) (block : IsSome (was.block spot)) (keeps : KeepsStamp was spot stamp) where
    stays : HasMeta was spot stamp → HasMeta now spot stamp
    stays has = subst (λ (o : Option (List ℕ)). IsSome o) (sym (thin.kept spot stamp block keeps)) has

    -- the greatest but one, where no smaller one is left
    last_two : IsSecond (HasMeta was spot) stamp → (top : ℕ) → stamp < top → ((other : ℕ) → HasMeta was spot other → (other ≡ top) ⊎ (other ≤ stamp)) →
        ((other : ℕ) → other < stamp → HasMeta now spot other → ⊥) → IsOnly (HasMeta now spot) stamp ⊎ IsSecond (HasMeta now spot) stamp
    last_two next top below others gone = elim (cases_Bool (is_some (now.meta spot top))) [
      | inl there ↦ inr (record {
        stands = stays next.stands;
        top = top;
        top_stands = there;
        below = below;
        next = λ other has. others other (thin.less spot other has);
      })
      | inr none ↦ inl (record {
        stands = stays next.stands;
        only = λ other has. elim (others other (thin.less spot other has)) [
          | inl same ↦ absurd (false≢true (sym none ∙ ap (λ n. is_some (now.meta spot n)) (sym same) ∙ has))
          | inr low ↦ elim (cases_le other low) [ inl less ↦ absurd (gone other less has) | inr same ↦ same ]
        ];
      })
    ]
      where
        cases_le : (other : ℕ) → other ≤ stamp → (other < stamp) ⊎ (other ≡ stamp)
        cases_le other low = grind (arith, low)

    gate_on : (gated : Bool) → GateKeeps (HasMeta was spot) gated stamp → GateKeeps (HasMeta now spot) gated stamp
    gate_on true (inl only) = inl (record { stands = stays only.stands; only = λ other has. only.only other (thin.less spot other has) })
    gate_on true (inr next) = elim (thin.ordered spot stamp next.top block keeps next.below next.top_stands) [
      | inl top ↦ inr (record {
        stands = stays next.stands;
        top = next.top;
        top_stands = top;
        below = next.below;
        next = λ other has. next.next other (thin.less spot other has);
      })
      | inr gone ↦ last_two next next.top next.below next.next gone
    ]
    gate_on false great = record { stands = stays great.stands; greatest = λ other has. great.greatest other (thin.less spot other has) }

    pub keeps_on : KeepsStamp now spot stamp
    keeps_on = subst (λ (b : Bool). GateKeeps (HasMeta now spot) b stamp) (sym (thin.writing spot.vol)) (gate_on (was.writing spot.vol) keeps)

  -- ---- copies

  block_some : (spot : Spot) (bytes : List ℕ) → was.block spot ≡ Some bytes → IsSome (was.block spot)
  block_some spot bytes is = subst (λ (o : Option (List ℕ)). IsSome o) (sym is) refl

  pub copies_on : (spot : Spot) (replica : Replica) → IsCopy was spot replica → IsCopy now spot replica
  copies_on spot replica copy = record {
    block = thin.block spot ∙ copy.block;
    stamp = keeps_on spot replica.stamp (block_some spot replica.bytes copy.block) copy.stamp;
  }

  pub copies_back : (spot : Spot) (replica : Replica) → IsCopy now spot replica → IsCopy was spot replica
  copies_back spot replica copy =
      let block : was.block spot ≡ Some replica.bytes = sym (thin.block spot) ∙ copy.block in
      let there = block_some spot replica.bytes block in
      let keeps = thin.some spot replica.stamp there (thin.less spot replica.stamp (KeepsStamp-meta now spot replica.stamp copy.stamp)) in
      let same = KeepsStamp-unique now spot keeps.0 replica.stamp (keeps_on spot keeps.0 there keeps.1) copy.stamp in
      record { block = block; stamp = subst (λ n. KeepsStamp was spot n) same keeps.1 }

  pub greatest_on : (spot : Spot) (replica : Replica) → IsGreatestCopy was spot replica → IsGreatestCopy now spot replica
  greatest_on spot replica great = record {
    copy = copies_on spot replica great.copy;
    greatest = λ other copy is. great.greatest other copy (copies_back other copy is);
  }

  pub greatest_back : (spot : Spot) (replica : Replica) → IsGreatestCopy now spot replica → IsGreatestCopy was spot replica
  greatest_back spot replica great = record {
    copy = copies_back spot replica great.copy;
    greatest = λ other copy is. great.greatest other copy (copies_on other copy is);
  }

  -- ---- what is read

  pub reads_on : (replica : Option Replica) → ReadsAs was replica → ReadsAs now replica
  reads_on None none = λ spot replica copy. none spot replica (copies_back spot replica copy)
  reads_on (Some replica) great = (great.0, greatest_on great.0 replica great.1)

  pub reads_back : (replica : Option Replica) → ReadsAs now replica → ReadsAs was replica
  reads_back None none = λ spot replica copy. none spot replica (copies_on spot replica copy)
  reads_back (Some replica) great = (great.0, greatest_back great.0 replica great.1)

  same_meta : (spot : Spot) (replica : Replica) → IsCopy was spot replica → now.meta spot replica.stamp ≡ was.meta spot replica.stamp
  same_meta spot replica copy = thin.kept spot replica.stamp (block_some spot replica.bytes copy.block) copy.stamp

  pub sound_on : (M : List ℕ → Replica → Type 0) → HasSoundCopies M was → HasSoundCopies M now
  sound_on M sound spot replica great =
      let before = greatest_back spot replica great in
      subst (λ (o : Option (List ℕ)). IsSomeAnd o (λ content. M content replica)) (sym (same_meta spot replica before.copy)) (sound spot replica before)

  pub sound_back : (M : List ℕ → Replica → Type 0) → HasSoundCopies M now → HasSoundCopies M was
  sound_back M sound spot replica great =
      subst (λ (o : Option (List ℕ)). IsSomeAnd o (λ content. M content replica)) (same_meta spot replica great.copy) (sound spot replica (greatest_on spot replica great))

  pub alone_on : ((spot : Spot) (replica : Replica) → IsCopy was spot replica → IsAlone was spot) → (spot : Spot) (replica : Replica) → IsCopy now spot replica → IsAlone now spot
  alone_on alone spot replica copy =
      let before = copies_back spot replica copy in
      let lone = alone spot replica before in
      let one = lone.one_meta.1 in
      let here = KeepsStamp-meta was spot replica.stamp before.stamp in
      record {
        one_meta = (
          replica.stamp,
          record {
            stands = KeepsStamp-meta now spot replica.stamp copy.stamp;
            only = λ other has. one.only other (thin.less spot other has) ∙ sym (one.only replica.stamp here);
          },
        );
        no_block = λ other there. lone.no_block other (subst (λ (o : Option (List ℕ)). IsSome o) (thin.block other) there);
        no_meta = λ other stamp has. lone.no_meta other stamp (thin.less other stamp has);
      }
