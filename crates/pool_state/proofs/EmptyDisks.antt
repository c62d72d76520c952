-- Disks in memory that hold nothing, and the cells of a write.
use Rattle.std.proofs.Common.{false, Result, Ok, Err, ap, ◌∙◌, ◌-◌, arith, ◌≡◌, ℕ, inl, inr, [], ◌∷◌, Some, None, refl, sym, subst, IsFalse, Contains}
use Rattle.std.proofs.lemmas.Bool.{cases_Bool, eq-eqb}
use Rattle.std.proofs.lemmas.Option.{same_Some}
use Rattle.disk_model.specs.Worlds.{World, has_draft}
use Rattle.disk_model.specs.Told.{IsWorldOf}
use Rattle.disk_model.proofs.Laws.{only_one}
use Rattle.mem_disks.specs.History.{empty_world}
use Rattle.std.specs.Result.{is_err, OnOk}
use Rattle.map_model.specs.Cells.{Cell, Cells, growing}
use Rattle.volume_layout.specs.declared.block_file.BlockFile.{BlockFile}
use Rattle.volume_layout.specs.BlockFiles.{is_file}
use Rattle.map_model.specs.Slots.{is_standing, view_of}
use Rattle.pool_state.specs.Stands.{with_cell, HoldNoBlock}

nothing_stands : (id vol : ℕ) (f : BlockFile) → IsFalse (is_standing (view_of empty_world id vol f))
unfolding view_of
nothing_stands id vol f = elim (cases_Bool (is_file f)) [
  | inl is ↦ rw is refl
  | inr isnt ↦ rw isnt refl
]

only_world : (world : World) → IsWorldOf (Some (empty_world ∷ [])) world → empty_world ≡ world
only_world world is = only_one empty_world world (subst (λ worlds. Contains worlds world) (sym (same_Some _ _ is.1)) is.2)

-- they hold no block
pub empty_disks : HoldNoBlock (Some (empty_world ∷ []))
empty_disks = record {
  none = λ world is id valid vol file. subst (λ w. IsFalse (is_standing (view_of w id vol file))) (only_world world is) (nothing_stands id vol file);
  aside = λ world is vol path apart. subst (λ w. IsFalse (has_draft w vol path)) (only_world world is) refl;
}

-- the cell that a step left
pub own_cell : (cells : Cells) (id other : ℕ) (cell : Cell) → other ≡ id → with_cell cells id cell other ≡ cell
own_cell cells id other cell same = rw (eq-eqb other id same) refl

-- what holds at Ok
pub at_ok : {T E P : Type 0} (r : Result T E) → is_err r ≡ false → OnOk r P → P
at_ok (Ok x) is p = p
at_ok (Err e) is p = absurd cc

-- the cell of a writer that has pushed nothing
pub bare_cell : (cell : Cell) (stamp stamp' need reserved len : ℕ) → cell ≡ growing stamp None [] need → stamp' ≡ stamp → reserved ≡ need → len ≡ 0 →
    cell ≡ growing stamp' None [] (reserved - len)
bare_cell cell stamp stamp' need reserved len is same all none =
    is ∙ ap (λ s. growing s None [] need) (sym same) ∙ ap (growing stamp' None []) (omega (arith, all, none))
