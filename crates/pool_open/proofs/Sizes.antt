-- What an opening makes of a block's files, where the disks tell them with the same sizes.
use Rattle.std.proofs.Common.{◌≡◌, inl, inr, ℕ, Bool, true, false, List, [], ◌∷◌, Option, length, refl, ap, sym, ◌∙◌}
use Rattle.std.specs.Prelude.{is_some, if◌then◌else◌}
use Rattle.std.proofs.lemmas.Bool.{false≢true}
use Rattle.std.proofs.lemmas.Option.{same_Some}
use Rattle.disk_model.specs.Worlds.{World, IsAbsent, HasSize}
use Rattle.volume_layout.specs.Paths.{block_path, rbw_block}
use Rattle.map_model.specs.Slots.{Slot, empty, holds, drafted, is_standing, slot_at}
use Rattle.map_model.specs.Stands.{Leftover as BookLeftover, BlockBooks}
use Rattle.map_model.proofs.Places.{has_draft-number, drafted_number, held_holds, bare_absent, absent_empty}
use Rattle.dup_resolve.specs.declared.CopyRow.{CopyRow}
use Rattle.pool_survey.specs.declared.places.FoundOn.{FoundOn}
use Rattle.pool_open.specs.declared.outcome.Outcome.{Outcome}
use Rattle.pool_open.specs.declared.outcome.Outcome.TheVariants.{Final, Waiting, Absent}
use Rattle.pool_open.specs.Found.{IsSizeOf, IsCopyFound, IsOutcome, IsHeldOn, AreHeld, IsSizeOfFirst, SaysOutcome, SaysFound}

-- a place at which the same stands has the same size
pub size_as : (was now : World) (vol : ℕ) (path : List ℕ) → slot_at now vol path ≡ slot_at was vol path → (size : ℕ) →
    ((IsAbsent was vol path → ⊥) → HasSize was vol path size) → (IsAbsent now vol path → ⊥) → HasSize now vol path size
size_as was now vol path same size sized there = by (slot_at now vol path) refl
  where
    before : IsAbsent was vol path → ⊥
    before absent = there (bare_absent now vol path (ap is_standing (same ∙ absent_empty was vol path absent)))

    by : (slot : Slot) → slot_at now vol path ≡ slot → HasSize now vol path size
    by empty is = absurd (there (bare_absent now vol path (ap is_standing is)))
    by (holds bytes) is =
        let own = held_holds was vol path bytes (sym same ∙ is) in
        elim (sized before) [
          | inl content ↦ inl (bytes, (held_holds now vol path bytes is).file, sym (ap length (same_Some content.0 bytes (sym content.1 ∙ own.file))) ∙ content.2)
          | inr drafts ↦ absurd (false≢true (sym own.no_draft ∙ drafts))
        ]
    by (drafted number) is = inr (has_draft-number now.drafts vol path ∙ ap is_some (drafted_number now vol path number is))

-- what the sizes of a block's block files are is known of these disks too
module _ (told new : Option (List World)) (id : ℕ)
    (of_block : (vol size : ℕ) → IsSizeOf told vol (block_path id) size → IsSizeOf new vol (block_path id) size)
    (of_writing : (vol size : ℕ) → IsSizeOf told vol (rbw_block id) size → IsSizeOf new vol (rbw_block id) size) where
  copy_as : (places : List FoundOn) (copy : CopyRow) → IsCopyFound told id places copy → IsCopyFound new id places copy
  copy_as places copy found = record { on = found.on; found = found.found; vol = found.vol; stamp = found.stamp; size = of_block copy.vol copy.len found.size }

  outcome_as : (places : List FoundOn) (outcome : Outcome) → IsOutcome told id places outcome → IsOutcome new id places outcome
  outcome_as places (Final copy) kept = record {
    copies = kept.copies;
    are = record { each = λ k d below. copy_as places _ (kept.are.each k d below); all = kept.are.all };
    one_of = kept.one_of;
    greatest = kept.greatest;
  }
  outcome_as places Waiting none = none
  outcome_as places Absent none = none

  held_on_as : (stamp : ℕ) (on : FoundOn) (left : List BookLeftover) → IsHeldOn told id stamp on left → IsHeldOn new id stamp on left
  held_on_as stamp on left held = record {
    block_len = held.block_len;
    writing_len = held.writing_len;
    is = held.is;
    block = λ there. of_block on.vol held.block_len (held.block there);
    writing = λ there. of_writing on.vol held.writing_len (held.writing there);
  }

  held_as : (stamp : ℕ) (places : List FoundOn) (left : List BookLeftover) → AreHeld told id stamp places left → AreHeld new id stamp places left
  held_as stamp [] left held = held
  held_as stamp (on ∷ places) left (own, rest, is, here, more) = (own, rest, is, held_on_as stamp on own here, held_as stamp places rest more)

  first_as : (vol size : ℕ) (writing : Bool) → IsSizeOf told vol (if writing then rbw_block id else block_path id) size → IsSizeOf new vol (if writing then rbw_block id else block_path id) size
  first_as vol size true sized = of_writing vol size sized
  first_as vol size false sized = of_block vol size sized

  size_of_first_as : (places : List FoundOn) (vol len : ℕ) → IsSizeOfFirst told id places vol len → IsSizeOfFirst new id places vol len
  size_of_first_as places vol len first = record { first = first.first; is_first = first.is_first; vol_is = first.vol_is; size = first_as vol len first.first.files.writing first.size }

  says_as : (places : List FoundOn) (books : BlockBooks) (outcome : Outcome) → SaysOutcome outcome told id places books → SaysOutcome outcome new id places books
  says_as places books (Final copy) says = says
  says_as places books Waiting says = record {
    vol = says.vol;
    rev = says.rev;
    stamp = says.stamp;
    len = says.len;
    left = says.left;
    is = says.is;
    greatest = says.greatest;
    held = held_as says.stamp places says.left says.held;
    first = size_of_first_as places says.vol says.len says.first;
  }
  says_as places books Absent says = says

  pub says_found_as : (places : List FoundOn) (books : BlockBooks) → SaysFound told id places books → SaysFound new id places books
  says_found_as places books says = record { outcome = says.outcome; is = outcome_as places says.outcome says.is; says = says_as places books says.outcome says.says }
