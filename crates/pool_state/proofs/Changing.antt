-- How a pool that stands for cells goes on to stand for others.
use Rattle.std.proofs.Common.{◌≡◌, ◌≢◌, ◌≤◌, inl, inr, ℕ, ◌==◌, if◌then◌else◌, List, [], Option, None, refl, sym, ◌∙◌, ap, subst, IsFalse}
use Rattle.std.proofs.lemmas.Bool.{cases_eq, eq-eqb, ne_eqb, false≢true}
use Rattle.disk_model.specs.Worlds.{World}
use Rattle.volume_layout.specs.Paths.{IsBlockId}
use Rattle.map_model.specs.Sound.{Knowledge, nothing, matching, exactly, Fits, learned}
use Rattle.map_model.specs.Cells.{Replica, Cell, Cells, absent, growing}
use Rattle.volume_layout.specs.declared.block_file.BlockFile.{BlockFile}
use mathlib.Core.Path.{fun_ext}
use Rattle.map_model.specs.Slots.{View, is_standing, view_of}
use Rattle.map_model.specs.Stands.{BlockBooks, BlockStands}
use Rattle.map_model.proofs.Knowing.{stands_by}
use Rattle.map_model.specs.Tenures.{books_of}
use Rattle.pool_state.specs.Stands.{with_cell, BooksFit, PoolStands, HoldNoBlock}
use Rattle.pool_state.specs.Reaching.{Reaches, ComesFrom}

-- a view in which nothing stands
bare_stands : (M : List ℕ → Replica → Type 0) (view : View) → ((vol : ℕ) (file : BlockFile) → IsFalse (is_standing (view vol file))) → BlockStands M view (books_of None [] None) absent
bare_stands M view bare = record {
  agrees = tt;
  content = tt;
  accounted = λ v f there. absurd (false≢true (sym (bare v f) ∙ there));
  apart = λ v f listed names. listed;
  leftovers = tt;
  settled = λ v f number is drafts. absurd (false≢true (sym (bare v f) ∙ ap is_standing drafts));
  stamp = tt;
  writer = tt;
  ticket = tt;
}

-- books that say nothing of a block fit an absent one
pub nothing_fits : (volumes : ℕ) → BooksFit volumes (books_of None [] None) absent
nothing_fits volumes = record { agrees = tt; placed = tt; left_placed = tt; clean = λ not. refl; fresh = tt }

-- disks without a file of a block, and books that say nothing, stand for cells that are all absent
pub empty_stands : (told : Option (List World)) (volumes : ℕ) (books : ℕ → BlockBooks) (known : Knowledge) → 1 ≤ volumes → HoldNoBlock told →
    ((id : ℕ) → books id ≡ books_of None [] None) → PoolStands told volumes books known (λ id. absent)
empty_stands told volumes books known some_volume holds none = record {
  some_volume = some_volume;
  fit = λ id valid. subst (λ b. BooksFit volumes b absent) (sym (none id)) (nothing_fits volumes);
  blocks = λ world is id valid. subst (λ b. BlockStands (Fits known id) (view_of world id) b absent) (sym (none id))
      (bare_stands (Fits known id) (view_of world id) (holds.none world is id valid));
  aside = holds.aside;
}

-- A step of one block's files leads from its books and its cell to others.
pub record Leads (known : Knowledge) (id volumes : ℕ) (step : View → View → Type 0) (was : BlockBooks) (cell_was : Cell) (now : BlockBooks) (cell : Cell) : Type 0 where
  pub fit : BooksFit volumes now cell
  pub own : (before after : View) → step before after → BlockStands (Fits known id) before was cell_was → BlockStands (Fits known id) after now cell

module _ {told told' : Option (List World)} {volumes volumes' : ℕ} {books books' : ℕ → BlockBooks} {known : Knowledge} {cells : Cells} (stands : PoolStands told volumes books known cells)
    (id : ℕ) (valid : IsBlockId id) {step : View → View → Type 0} (reaches : Reaches id step told told') (same_volumes : volumes' ≡ volumes)
    {now : BlockBooks} {cell : Cell} (leads : Leads known id volumes step (books id) (cells id) now cell)
    (changed : (other : ℕ) → books' other ≡ (if other == id then now else books other)) where
  -- what the books say of each block
  said : (P : ℕ → BlockBooks → Cell → Type 0) → P id now cell → ((other : ℕ) → IsBlockId other → id ≢ other → P other (books other) (cells other)) →
      (other : ℕ) → IsBlockId other → P other (books' other) (with_cell cells id cell other)
  said P here away other valid_other =
      subst (λ (b : BlockBooks). P other b (with_cell cells id cell other)) (sym (changed other))
      (elim (cases_eq other id) [
        | inl same ↦ rw (eq-eqb other id same) (subst (λ n. P n now cell) (sym same) here)
        | inr apart ↦ rw (ne_eqb other id apart) (away other valid_other (λ e. apart (sym e)))
      ])

  -- THE BLOCK CHANGED, and the pool stands for the cells with its new one
  pub pool_stands : PoolStands told' volumes' books' known (with_cell cells id cell)
  pool_stands = record {
    some_volume = subst (λ n. 1 ≤ n) (sym same_volumes) stands.some_volume;
    fit = subst (λ n. (other : ℕ) → IsBlockId other → BooksFit n (books' other) (with_cell cells id cell other)) (sym same_volumes)
        (said (λ other b c. BooksFit volumes b c) leads.fit (λ other valid_other apart. stands.fit other valid_other));
    blocks = λ world is.
        let from : ComesFrom id step told world = reaches.each world is in
        said (λ other b c. BlockStands (Fits known other) (view_of world other) b c)
        (leads.own (view_of from.was id) (view_of world id) from.stepped (stands.blocks from.was from.is id valid))
        (λ other valid_other apart. subst (λ v. BlockStands (Fits known other) v (books other) (cells other))
        (sym (from.others other valid_other apart)) (stands.blocks from.was from.is other valid_other));
    aside = λ world is. let from : ComesFrom id step told world = reaches.each world is in from.aside (stands.aside from.was from.is);
  }

-- the books of one block stay, as those of all others do
pub unchanged : (id : ℕ) (books books' : ℕ → BlockBooks) → ((other : ℕ) → books' other ≡ books other) → (other : ℕ) → books' other ≡ (if other == id then books id else books other)
unchanged id books books' same other = elim (cases_eq other id) [
  | inl here ↦ rw (eq-eqb other id here) (same other ∙ ap books here)
  | inr apart ↦ rw (ne_eqb other id apart) (same other)
]

-- the books of one block become these, after a call that leaves all
pub changed_to : (id : ℕ) (old mid new : ℕ → BlockBooks) (mid_now now : BlockBooks) → ((other : ℕ) → new other ≡ (if other == id then mid_now else mid other)) → ((other : ℕ) → mid other ≡ old other) →
    mid_now ≡ now → (other : ℕ) → new other ≡ (if other == id then now else old other)
changed_to id old mid new mid_now now becomes stays is other =
    becomes other ∙ ap (λ (b : BlockBooks). if other == id then b else mid other) is ∙ ap (λ (b : BlockBooks). if other == id then now else b) (stays other)

-- those of others stay
pub others_stay : (id : ℕ) (old mid new : ℕ → BlockBooks) (now : BlockBooks) → ((other : ℕ) → new other ≡ (if other == id then now else mid other)) → ((other : ℕ) → mid other ≡ old other) →
    (other : ℕ) → other ≢ id → new other ≡ old other
others_stay id old mid new now becomes stays other apart = becomes other ∙ rw (ne_eqb other id apart) (stays other)

-- ---- what is known of the meta files

learned_elsewhere : (known : Knowledge) (id stamp : ℕ) (meta : List ℕ) (other : ℕ) → (other ≡ id → ⊥) → (content : List ℕ) (replica : Replica) →
    Fits known other content replica → Fits (learned id stamp meta known) other content replica
learned_elsewhere nothing id stamp meta other apart content replica fits = tt
learned_elsewhere matching id stamp meta other apart content replica fits = fits
learned_elsewhere (exactly metas) id stamp meta other apart content replica fits = rw (ne_eqb other id apart) fits

-- no more is said of the files of a block that grows over none
grows_by : (M N : List ℕ → Replica → Type 0) (view : View) (books : BlockBooks) (stamp left : ℕ) (bytes : List ℕ) →
    BlockStands M view books (growing stamp None bytes left) → BlockStands N view books (growing stamp None bytes left)
grows_by M N view books stamp left bytes own = record {
  agrees = own.agrees;
  content = tt;
  accounted = own.accounted;
  apart = own.apart;
  leftovers = own.leftovers;
  settled = own.settled;
  stamp = own.stamp;
  writer = own.writer;
  ticket = own.ticket;
}

-- so whatever its meta file will be, the pool stands
pub learns : {told : Option (List World)} {volumes : ℕ} {books : ℕ → BlockBooks} {known : Knowledge} {cells : Cells} →
    PoolStands told volumes books known cells → (id stamp left : ℕ) (bytes meta : List ℕ) → cells id ≡ growing stamp None bytes left →
    PoolStands told volumes books (learned id stamp meta known) cells
learns {books = books} {known = known} {cells = cells} stands id stamp left bytes meta grows = record {
  some_volume = stands.some_volume;
  fit = stands.fit;
  blocks = λ world is other valid. elim (cases_eq other id) [
    | inl same ↦
        let here : cells other ≡ growing stamp None bytes left = ap cells same ∙ grows in
        subst (BlockStands (Fits (learned id stamp meta known) other) (view_of world other) (books other)) (sym here)
        (grows_by (Fits known other) (Fits (learned id stamp meta known) other) (view_of world other) (books other) stamp left bytes
        (subst (BlockStands (Fits known other) (view_of world other) (books other)) here (stands.blocks world is other valid)))
    | inr apart ↦ stands_by (Fits known other) (Fits (learned id stamp meta known) other) (learned_elsewhere known id stamp meta other apart)
        (view_of world other) (books other) (cells other) (stands.blocks world is other valid)
  ];
  aside = stands.aside;
}

-- A POOL STANDS BY LESS
pub stands_for_less : {told : Option (List World)} {volumes : ℕ} {books : ℕ → BlockBooks} {known less : Knowledge} {cells : Cells} →
    ((id : ℕ) (content : List ℕ) (replica : Replica) → Fits known id content replica → Fits less id content replica) →
    PoolStands told volumes books known cells → PoolStands told volumes books less cells
stands_for_less {books = books} {known = known} {less = less} {cells = cells} weaken stands = record {
  some_volume = stands.some_volume;
  fit = stands.fit;
  blocks = λ world is id valid. stands_by (Fits known id) (Fits less id) (weaken id) (view_of world id) (books id) (cells id) (stands.blocks world is id valid);
  aside = stands.aside;
}

-- where nothing has changed
pub stands_same : {told told' : Option (List World)} {volumes volumes' : ℕ} {books books' : ℕ → BlockBooks} {known : Knowledge} {cells : Cells} →
    PoolStands told volumes books known cells → told' ≡ told → volumes' ≡ volumes → ((other : ℕ) → books' other ≡ books other) → PoolStands told' volumes' books' known cells
stands_same {told = told} {volumes = volumes} {volumes' = volumes'} {books = books} {books' = books'} {known = known} {cells = cells} stands told_is volumes_is books_are =
    subst (λ t. PoolStands t volumes' books' known cells) (sym told_is)
    (subst (λ n. PoolStands told n books' known cells) (sym volumes_is)
    (subst (λ bs. PoolStands told volumes bs known cells) (sym (fun_ext books_are)) stands))

-- a cell that becomes what it is
pub with_cell-same : (cells : Cells) (id : ℕ) → with_cell cells id (cells id) ≡ cells
with_cell-same cells id = fun_ext (λ other. elim (cases_eq other id) [
  | inl same ↦ rw (eq-eqb other id same) (ap cells (sym same))
  | inr apart ↦ rw (ne_eqb other id apart) refl
])

-- and the cell is put as it was
pub stands_unchanged : {told told' : Option (List World)} {volumes volumes' : ℕ} {books books' : ℕ → BlockBooks} {known : Knowledge} {cells : Cells} (id : ℕ) →
    PoolStands told volumes books known cells → told' ≡ told → volumes' ≡ volumes → ((other : ℕ) → books' other ≡ books other) → PoolStands told' volumes' books' known (with_cell cells id (cells id))
stands_unchanged {told' = told'} {volumes' = volumes'} {books' = books'} {known = known} {cells = cells} id stands told_is volumes_is books_are =
    subst (PoolStands told' volumes' books' known) (sym (with_cell-same cells id)) (stands_same stands told_is volumes_is books_are)

-- the books stay, and are these of the block
pub unchanged_as : (id : ℕ) (books : ℕ → BlockBooks) {now : BlockBooks} → books id ≡ now → (other : ℕ) → books other ≡ (if other == id then now else books other)
unchanged_as id books is other = elim (cases_eq other id) [
  | inl same ↦ rw (eq-eqb other id same) (ap books same ∙ is)
  | inr apart ↦ rw (ne_eqb other id apart) refl
]
