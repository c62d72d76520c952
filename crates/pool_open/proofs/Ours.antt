-- Nothing that an opening clears is foreign.
use Rattle.std.proofs.Common.{◌≡◌, inl, inr, ℕ, List, Option, Some, All, Contains, refl, sym, subst}
use Rattle.std.specs.Prelude.{codes}
use Rattle.std.specs.Ordering.{nat_cmp}
use Rattle.std.specs.BTreeMap.{get}
use Rattle.std.specs.declared.vec.Vec.{Vec}
use Rattle.std.specs.declared.alloc.Global.{Global}
use Rattle.std.proofs.lemmas.Bool.{false≢true}
use Rattle.std.proofs.lemmas.List.Elements.{All-contains}
use Rattle.disk_model.specs.declared.disks.PoolDisks.{Ghosts}
use Rattle.disk_model.specs.Files.{Files, path_in}
use Rattle.disk_model.specs.Worlds.{World, removed}
use Rattle.disk_model.specs.Told.{CanLeave, StandsBeforeOrAfter}
use Rattle.disk_model.specs.Moments.{Elapses}
use Rattle.disk_model.specs.Alone.{LeavesAlone}
use Rattle.disk_model.proofs.Alone.{alike_same, alike_removed, alone_call, can_leave_alike}
use Rattle.volume_layout.specs.Paths.{IsBlockId, IsStamp, meta_path}
use Rattle.volume_layout.specs.declared.block_file.BlockFile.TheVariants.{Block, Meta, WritingBlock, WritingMeta}
use Rattle.volume_layout.proofs.Reading.{is_stamp-IsStamp}
use Rattle.volume_layout.specs.Foreign.{IsForeign}
use Rattle.pool_state.specs.Foreign.{LeavesForeign}
use Rattle.pool_survey.specs.declared.places.FoundOn.{FoundOn}
use Rattle.pool_survey.specs.declared.surveying_pool.PoolSurvey.{PoolSurvey}
use Rattle.pool_survey.specs.Places.{ArePoolBlocks}
use Rattle.pool_survey.specs.Regions.{AreFiles}
use Rattle.pool_open.specs.Plan.{Place}
use Rattle.pool_open.specs.Looking.{OnlyLooks}
use Rattle.pool_open.specs.Ours.{IsOurs, AreOurs}
use Rattle.pool_open.proofs.Opened.{plan_of}
use Rattle.pool_open.proofs.Placed.{places_here}
use Rattle.pool_open.proofs.EachPlace.{EachOn, plan_each}

-- a name in `tmp`, and a finalised meta
pub name_is_ours : (vol : ℕ) (name : List ℕ) → IsOurs (vol, path_in (codes "tmp") name)
name_is_ours vol name foreign = false≢true (sym foreign.not_temporary)

pub meta_is_ours : (vol id stamp : ℕ) → IsBlockId id → IsStamp stamp → IsOurs (vol, meta_path id stamp)
meta_is_ours vol id stamp valid stamped foreign = foreign.no_file id (Meta stamp) valid (is_stamp-IsStamp stamp stamped) refl

-- the files of a block that were found on a volume
pub found_are_ours : (id : ℕ) (on : FoundOn) → IsBlockId id → AreFiles (Some on.files) → EachOn IsOurs id on
found_are_ours id on valid files = record {
  block = λ foreign. foreign.no_file id Block valid refl refl;
  writing = λ foreign. foreign.no_file id WritingBlock valid refl refl;
  metas = λ stamp has. meta_is_ours on.vol id stamp valid (All-contains IsStamp on.files.metas.items stamp files.metas.in_range has);
  writing_metas = λ stamp has foreign.
      foreign.no_file id (WritingMeta stamp) valid (is_stamp-IsStamp stamp (All-contains IsStamp on.files.writing_metas.items stamp files.writing_metas.in_range has)) refl;
}

-- ALL THAT AN OPENING PLANS TO CLEAR IS OURS
pub plan_ours : (volumes : ℕ) (survey : PoolSurvey) → ArePoolBlocks volumes survey.blocks
    → All (λ (entry : ℕ × Vec FoundOn Global). get nat_cmp survey.blocks entry.0 ≡ Some entry.1) survey.blocks.entries
    → (kept : ℕ → Option ℕ) → AreOurs (plan_of kept survey)
plan_ours volumes survey blocks listed kept = plan_each IsOurs kept survey.blocks.entries survey.temporary.items name_is_ours
    (λ id found has on there.
    let is : get nat_cmp survey.blocks id ≡ Some found =
    All-contains (λ (entry : ℕ × Vec FoundOn Global). get nat_cmp survey.blocks entry.0 ≡ Some entry.1) survey.blocks.entries (id, found) listed has in
    found_are_ours id on (blocks.ids id found is)
    (All-contains (λ (on : FoundOn). AreFiles (Some on.files)) found.items on
    (subst (λ (places : List FoundOn). All (λ (on : FoundOn). AreFiles (Some on.files)) places) (places_here survey.blocks id found is) (blocks.places id).files) there))

-- a removal at one of our places
pub ours_removed : {old new : Option (List World)} {before now : ℕ} {past since : ℕ → Files → Type 0} (places : List Place) → AreOurs places
    → (vol : ℕ) (path : List ℕ) → Contains places (vol, path) → StandsBeforeOrAfter (removed vol path) old new → Elapses before now past since (CanLeave new)
    → LeavesAlone IsForeign old new past since
ours_removed places ours vol path has call time =
    alone_call IsForeign (removed vol path) (λ world. alike_removed IsForeign vol path world (λ p foreign same.
    All-contains IsOurs places (vol, path) ours has (subst IsForeign same foreign))) call time

-- calls that only look
pub looks_foreign : {D S T R : Type 0} (g : Ghosts D S T R) (old new : D) → OnlyLooks g old new → LeavesForeign g old new
looks_foreign g old new looks = record {
  worlds = λ world is. (world, looks.remains world is, alike_same IsForeign world);
  images = λ t image left. elim (looks.images t image left) [
    | inl earlier ↦ inl earlier
    | inr leaves ↦ inr (can_leave_alike IsForeign (g.worlds old) image leaves)
  ];
}
