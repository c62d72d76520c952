-- What stands for what an opening makes of a block, over views of the block.
use Rattle.std.proofs.Common.{◌≡◌, inl, inr, ℕ, Bool, true, false, List, [], ◌∷◌, ◌++◌, Some, None, Contains, refl, ap, IsTrue, length, map, if◌then◌else◌}
use Rattle.std.specs.Prelude.{is_some}
use Rattle.std.proofs.lemmas.Bool.{false≢true}
use Rattle.volume_layout.specs.Paths.{IsStamp}
use Rattle.volume_layout.proofs.Reading.{is_stamp-IsStamp}
use Rattle.map_model.specs.Cells.{Replica, absent, final, waiting}
use Rattle.map_model.specs.Copies.{Spot, IsCopy, IsAlone, ReadsAs}
use Rattle.volume_layout.specs.declared.block_file.BlockFile.{BlockFile}
use Rattle.volume_layout.specs.declared.block_file.BlockFile.TheVariants.{Block, Meta, WritingBlock, WritingMeta}
use Rattle.map_model.specs.Slots.{drafted, is_standing, View, files_in}
use Rattle.map_model.specs.Stands.{Leftover, Names, IsListed, Each, LeftoverFits, HasNoPair, IsFinalised, PairStands, is_final, is_waiting, StateNames, BlockStands}
use Rattle.map_model.specs.Tenures.{books_of}
use Rattle.map_model.proofs.SlotLemmas.{bytes-standing}
use Rattle.map_model.proofs.Readings.{KeepsStamp-meta, reads_nothing}
use Rattle.map_model.proofs.KeyLaw.{no_pair_files}
use Rattle.map_model.proofs.Waiting.{waits_stands}
use Rattle.pool_survey.specs.declared.places.FoundOn.{FoundOn}
use Rattle.pool_open.specs.Plan.{held_file, kept_on}
use Rattle.pool_open.specs.Found.{entry_of}
use Rattle.pool_open.proofs.Placed.{none_in, first_in, later_in, in_cases}

-- a replica
abbrev pub replica_of : ℕ → List ℕ → Replica
replica_of stamp bytes = record { stamp = stamp; bytes = bytes }

-- where no pair stands nothing is read, and no copy is there
pub no_pair_reads : (view : View) → HasNoPair view → ReadsAs (files_in view) None
no_pair_reads view none = reads_nothing (files_in view) (no_pair_files view none)

pub no_pair_alone : (view : View) → HasNoPair view → (spot : Spot) (replica : Replica) → IsCopy (files_in view) spot replica → IsAlone (files_in view) spot
no_pair_alone view none spot replica copy = absurd (none spot.vol replica.stamp (bytes-standing (view spot.vol Block) (ap is_some copy.block))
    (bytes-standing (view spot.vol (Meta replica.stamp)) (KeepsStamp-meta (files_in view) spot replica.stamp copy.stamp)))

-- nothing stands of an absent block
pub absent_stands : (M : List ℕ → Replica → Type 0) (view : View) → ((vol : ℕ) (file : BlockFile) → IsTrue (is_standing (view vol file)) → ⊥) →
    BlockStands M view (books_of None [] None) absent
absent_stands M view bare = record {
  agrees = tt;
  content = tt;
  accounted = λ v f there. absurd (bare v f there);
  apart = λ v f listed names. listed;
  leftovers = tt;
  settled = λ v f number is drafts. absurd (bare v f (ap is_standing drafts));
  stamp = tt;
  writer = tt;
  ticket = tt;
}

-- a replica's pair alone
pub final_stands : (M : List ℕ → Replica → Type 0) (view : View) (own rev stamp len : ℕ) (bytes : List ℕ) → PairStands M view own (replica_of stamp bytes) →
    IsStamp stamp → len ≡ length bytes →
    ((vol : ℕ) (file : BlockFile) → IsTrue (is_standing (view vol file)) → (own ≡ vol) × StateNames is_final stamp file) →
    ((vol : ℕ) (file : BlockFile) (number : ℕ) → IsFinalised file → view vol file ≡ drafted number → ⊥) →
    BlockStands M view (books_of (Some (entry_of own rev stamp len is_final)) [] None) (final (replica_of stamp bytes))
final_stands M view own rev stamp len bytes pair valid length_is named settled = record {
  agrees = (refl, refl, length_is);
  content = (pair, λ v f is listed there. absurd listed);
  accounted = λ v f there. inl (inl (named v f there));
  apart = λ v f listed names. listed;
  leftovers = tt;
  settled = settled;
  stamp = (valid, tt);
  writer = tt;
  ticket = tt;
}

no_names : (v : ℕ) (f : BlockFile) → Names None None v f → ⊥
no_names v f (inl names) = names
no_names v f (inr names) = names

-- a block whose files wait
pub waiting_stands : (M : List ℕ → Replica → Type 0) (view : View) (own rev stamp len : ℕ) (left : List Leftover) → IsStamp stamp → HasNoPair view →
    ((vol : ℕ) (file : BlockFile) → IsTrue (is_standing (view vol file)) → IsListed left vol file) →
    Each (LeftoverFits (Some (entry_of own rev stamp len is_waiting))) left →
    ((vol : ℕ) (file : BlockFile) (number : ℕ) → IsFinalised file → view vol file ≡ drafted number → ⊥) →
    BlockStands M view (books_of (Some (entry_of own rev stamp len is_waiting)) left None) waiting
waiting_stands M view own rev stamp len left valid none listed fit settled =
    waits_stands M view (entry_of own rev stamp len is_waiting) left None (record {
      state = refl;
      stamp = valid;
      none = none;
      accounted = λ v f there. inr (listed v f there);
      apart = λ v f listed' names. no_names v f names;
      leftovers_fit = fit;
      settled = settled;
      ticket_stands = tt;
      unwanted = tt;
    })

-- ---- the files of a block that waits

pub each_append : (P : Leftover → Type 0) (xs ys : List Leftover) → Each P xs → Each P ys → Each P (xs ++ ys)
each_append P [] ys one two = two
each_append P (x ∷ xs) ys one two = (one.0, each_append P xs ys one.1 two)

pub listed_right : (xs ys : List Leftover) (v : ℕ) (f : BlockFile) → IsListed ys v f → IsListed (xs ++ ys) v f
listed_right [] ys v f listed = listed
listed_right (x ∷ xs) ys v f listed = inr (listed_right xs ys v f listed)

pub listed_left : (xs ys : List Leftover) (v : ℕ) (f : BlockFile) → IsListed xs v f → IsListed (xs ++ ys) v f
listed_left [] ys v f listed = absurd listed
listed_left (x ∷ xs) ys v f (inl here) = inl here
listed_left (x ∷ xs) ys v f (inr later) = inr (listed_left xs ys v f later)

abbrev held_metas : ℕ → ℕ → List ℕ → List Leftover
held_metas vol stamp metas = map (λ meta. held_file vol stamp 0 (WritingMeta meta)) metas

module _ (P : Leftover → Type 0) (stamp block_len writing_len : ℕ) (on : FoundOn) where
  each_metas : (metas : List ℕ) → ((found : ℕ) → Contains metas found → P (held_file on.vol stamp 0 (WritingMeta found))) → Each P (held_metas on.vol stamp metas)
  each_metas [] fits = tt
  each_metas (one ∷ more) fits = (fits one (first_in one more), each_metas more (λ found has. fits found (later_in one more found has)))

  each_when : (there : Bool) (xs : List Leftover) → (there ≡ true → Each P xs) → Each P (if there then xs else [])
  each_when true xs each = each refl
  each_when false xs each = tt

  -- a fact of each of them
  pub each_kept : P (held_file on.vol stamp block_len Block) → P (held_file on.vol stamp writing_len WritingBlock) →
      ((found : ℕ) → Contains on.files.writing_metas.items found → P (held_file on.vol stamp 0 (WritingMeta found))) → Each P (kept_on stamp block_len writing_len on)
  each_kept of_block of_writing of_metas = each_append P _ _
      (each_when on.files.block (held_file on.vol stamp block_len Block ∷ []) (λ is. (of_block, tt)))
      (each_when on.files.writing (held_file on.vol stamp writing_len WritingBlock ∷ held_metas on.vol stamp on.files.writing_metas.items)
      (λ is. (of_writing, each_metas on.files.writing_metas.items of_metas)))

module _ (stamp block_len writing_len : ℕ) (on : FoundOn) where
  listed_metas : (metas : List ℕ) (found : ℕ) → Contains metas found → IsListed (held_metas on.vol stamp metas) on.vol (WritingMeta found)
  listed_metas [] found has = absurd (none_in found has)
  listed_metas (one ∷ more) found has = elim (in_cases one more found has) [
    | inl here ↦ inl (refl, ap WritingMeta here)
    | inr later ↦ inr (listed_metas more found later)
  ]

  when_there : (there : Bool) (xs : List Leftover) (v : ℕ) (f : BlockFile) → there ≡ true → IsListed xs v f → IsListed (if there then xs else []) v f
  when_there true xs v f is listed = listed
  when_there false xs v f is listed = absurd (false≢true is)

  pub lists_block : on.files.block ≡ true → IsListed (kept_on stamp block_len writing_len on) on.vol Block
  lists_block is = listed_left _ _ on.vol Block (when_there on.files.block (held_file on.vol stamp block_len Block ∷ []) on.vol Block is (inl (refl, refl)))

  pub lists_writing : on.files.writing ≡ true → IsListed (kept_on stamp block_len writing_len on) on.vol WritingBlock
  lists_writing is = listed_right (if on.files.block then held_file on.vol stamp block_len Block ∷ [] else []) _ on.vol WritingBlock
      (when_there on.files.writing (held_file on.vol stamp writing_len WritingBlock ∷ held_metas on.vol stamp on.files.writing_metas.items) on.vol WritingBlock is (inl (refl, refl)))

  pub lists_meta : on.files.writing ≡ true → (found : ℕ) → Contains on.files.writing_metas.items found →
      IsListed (kept_on stamp block_len writing_len on) on.vol (WritingMeta found)
  lists_meta is found has = listed_right (if on.files.block then held_file on.vol stamp block_len Block ∷ [] else []) _ on.vol (WritingMeta found)
      (when_there on.files.writing (held_file on.vol stamp writing_len WritingBlock ∷ held_metas on.vol stamp on.files.writing_metas.items) on.vol (WritingMeta found) is
      (inr (listed_metas on.files.writing_metas.items found has)))

  -- each fits the entry of the block
  pub kept_fits : (own rev len : ℕ) → ((found : ℕ) → Contains on.files.writing_metas.items found → IsStamp found) →
      Each (LeftoverFits (Some (entry_of own rev stamp len is_waiting))) (kept_on stamp block_len writing_len on)
  kept_fits own rev len stamps = each_kept (LeftoverFits (Some (entry_of own rev stamp len is_waiting))) stamp block_len writing_len on
      (record { valid = refl; held = λ is. refl; place = tt })
      (record { valid = refl; held = λ is. refl; place = tt })
      (λ found has. record { valid = is_stamp-IsStamp found (stamps found has); held = λ is. refl; place = tt })
