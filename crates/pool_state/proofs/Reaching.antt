-- What a tenure's calls do with one block, in every world: the block's files change by a step, those of other blocks stay.
use Rattle.std.proofs.Common.{◌≡◌, ◌≢◌, inl, inr, ℕ, List, Option, refl, sym, ◌∙◌, subst, IsTrue, true}
use Rattle.disk_model.specs.Worlds.{World, draft_at, created, published, removed}
use Rattle.disk_model.specs.Told.{IsWorldOf, PicksOne, StandsBeforeOrAfter}
use Rattle.disk_model.proofs.Laws.{from_done}
use Rattle.volume_layout.specs.Paths.{IsBlockId}
use Rattle.map_model.specs.World.{DraftsAside}
use Rattle.volume_layout.specs.declared.block_file.BlockFile.{BlockFile}
use Rattle.volume_layout.specs.BlockFiles.{is_file, is_aside_file, path_of}
use Rattle.map_model.specs.Slots.{View, view_of, create_in, publish_in, remove_in}
use Rattle.map_model.specs.Tenures.{Fails}
use Rattle.pool_state.specs.Reaching.{ComesFrom, Reaches, Stays, Then}
use Rattle.map_model.proofs.Bridge.{view_created, view_published, view_removed, other_created, other_published, other_removed}
use Rattle.map_model.proofs.Aside.{aside_created_file, aside_published, aside_removed}

comes_same : (id : ℕ) (old : Option (List World)) (world : World) → IsWorldOf old world → ComesFrom id Stays old world
comes_same id old world is = record { was = world; is = is; stepped = refl; others = λ other valid apart. refl; aside = λ aside. aside }

pub reaches_same : (id : ℕ) (old new : Option (List World)) → new ≡ old → Reaches id Stays old new
reaches_same id old new same = record { each = λ world is. comes_same id old world (subst (λ told. IsWorldOf told world) same is) }

-- a call that only looks
pub reaches_looked : (id : ℕ) (old new : Option (List World)) → StandsBeforeOrAfter (λ w. w) old new → Reaches id Stays old new
reaches_looked id old new call = record {
  each = λ world is.
      let from = call.each world is in
      let same : world ≡ from.0 = elim from.2 [ inl e ↦ e | inr e ↦ e ] in
      subst (ComesFrom id Stays old) (sym same) (comes_same id old from.0 from.1);
}

pub reaches_then : (id : ℕ) (one two : View → View → Type 0) (first middle last : Option (List World)) →
    Reaches id one first middle → Reaches id two middle last → Reaches id (Then one two) first last
reaches_then id one two first middle last before after = record {
  each = λ world is.
      let second = after.each world is in
      let front = before.each second.was second.is in
      record {
        was = front.was;
        is = front.is;
        stepped = (view_of second.was id, front.stepped, second.stepped);
        others = λ other valid apart. second.others other valid apart ∙ front.others other valid apart;
        aside = λ aside. second.aside (front.aside aside);
      };
}

module _ (id : ℕ) (change : World → World) (step : View → View) (old new : Option (List World))
    (own : (world : World) → view_of (change world) id ≡ step (view_of world id))
    (other_views : (other : ℕ) → IsBlockId other → id ≢ other → (world : World) → view_of (change world) other ≡ view_of world other)
    (aside : (world : World) → DraftsAside world → DraftsAside (change world)) where
  abbrev changed : (was : World) → IsWorldOf old was → ComesFrom id (λ before after. after ≡ step before) old (change was)
  changed was is = record {
    was = was;
    is = is;
    stepped = own was;
    others = λ other valid apart. other_views other valid apart was;
    aside = aside was;
  }

  done : {HasAnswer : World → Type 0} → PicksOne HasAnswer change old new → Reaches id (λ before after. after ≡ step before) old new
  done call = record {
    each = λ world is.
        let from = from_done call world is in
        subst (ComesFrom id (λ before after. after ≡ step before) old) (sym from.3) (changed from.0 from.1);
  }

  any : StandsBeforeOrAfter change old new → Reaches id (λ before after. Fails before (step before) after) old new
  any call = record {
    each = λ world is.
        let from = call.each world is in
        elim from.2 [
          | inl same ↦
              let stays : ComesFrom id (λ before after. Fails before (step before) after) old from.0 = record {
                was = from.0;
                is = from.1;
                stepped = inl refl;
                others = λ other valid apart. refl;
                aside = λ a. a;
              } in
              subst (ComesFrom id (λ before after. Fails before (step before) after) old) (sym same) stays
          | inr made ↦
              let it = changed from.0 from.1 in
              let goes : ComesFrom id (λ before after. Fails before (step before) after) old (change from.0) = record {
                was = from.0;
                is = from.1;
                stepped = inr it.stepped;
                others = it.others;
                aside = it.aside;
              } in
              subst (ComesFrom id (λ before after. Fails before (step before) after) old) (sym made) goes
        ];
  }

module _ (id vol : ℕ) (f : BlockFile) (number : ℕ) (valid : IsBlockId id) (is : IsTrue (is_file f)) (stands_aside : is_aside_file f ≡ true) (old new : Option (List World)) where
  -- a create of one of the block's files that was done
  pub reaches_created : {HasAnswer : World → Type 0} → PicksOne HasAnswer (created (draft_at number vol (path_of id f))) old new →
      Reaches id (λ before after. after ≡ create_in before vol f number) old new
  reaches_created = done id (created (draft_at number vol (path_of id f))) (λ before. create_in before vol f number) old new
      (λ world. view_created id vol f valid is world number)
      (λ other valid_other apart world. other_created id other vol f valid valid_other apart is world number)
      (λ world. aside_created_file id number vol f world stands_aside)

  -- one that failed
  pub reaches_create : StandsBeforeOrAfter (created (draft_at number vol (path_of id f))) old new →
      Reaches id (λ before after. Fails before (create_in before vol f number) after) old new
  reaches_create = any id (created (draft_at number vol (path_of id f))) (λ before. create_in before vol f number) old new
      (λ world. view_created id vol f valid is world number)
      (λ other valid_other apart world. other_created id other vol f valid valid_other apart is world number)
      (λ world. aside_created_file id number vol f world stands_aside)

module _ (id vol : ℕ) (from target : BlockFile) (number : ℕ) (bytes : List ℕ) (valid : IsBlockId id) (is_from : IsTrue (is_file from)) (is_target : IsTrue (is_file target))
    (old new : Option (List World)) where
  -- a publish of one of the block's drafts that was done
  pub reaches_published : {HasAnswer : World → Type 0} → PicksOne HasAnswer (published (draft_at number vol (path_of id from)) bytes (path_of id target)) old new →
      Reaches id (λ before after. after ≡ publish_in before vol from target bytes) old new
  reaches_published = done id (published (draft_at number vol (path_of id from)) bytes (path_of id target)) (λ before. publish_in before vol from target bytes) old new
      (λ world. view_published id vol from target valid is_from is_target world number bytes)
      (λ other valid_other apart world. other_published id other vol from target valid valid_other apart is_from is_target world number bytes)
      (λ world. aside_published (draft_at number vol (path_of id from)) bytes (path_of id target) world)

  -- one that failed
  pub reaches_publish : StandsBeforeOrAfter (published (draft_at number vol (path_of id from)) bytes (path_of id target)) old new →
      Reaches id (λ before after. Fails before (publish_in before vol from target bytes) after) old new
  reaches_publish = any id (published (draft_at number vol (path_of id from)) bytes (path_of id target)) (λ before. publish_in before vol from target bytes) old new
      (λ world. view_published id vol from target valid is_from is_target world number bytes)
      (λ other valid_other apart world. other_published id other vol from target valid valid_other apart is_from is_target world number bytes)
      (λ world. aside_published (draft_at number vol (path_of id from)) bytes (path_of id target) world)

module _ (id vol : ℕ) (f : BlockFile) (valid : IsBlockId id) (is : IsTrue (is_file f)) (path : List ℕ) (same : path ≡ path_of id f) (old new : Option (List World)) where
  -- a removal of one of the block's files that was done
  pub reaches_removed_at : {HasAnswer : World → Type 0} → PicksOne HasAnswer (removed vol path) old new →
      Reaches id (λ before after. after ≡ remove_in before vol f) old new
  reaches_removed_at {HasAnswer} call = done id (removed vol (path_of id f)) (λ before. remove_in before vol f) old new
      (λ world. view_removed id vol f valid is world)
      (λ other valid_other apart world. other_removed id other vol f valid valid_other apart is world)
      (λ world. aside_removed vol (path_of id f) world)
      (subst (λ p. PicksOne HasAnswer (removed vol p) old new) same call)

  -- one that failed
  pub reaches_remove_at : StandsBeforeOrAfter (removed vol path) old new → Reaches id (λ before after. Fails before (remove_in before vol f) after) old new
  reaches_remove_at call = any id (removed vol (path_of id f)) (λ before. remove_in before vol f) old new
      (λ world. view_removed id vol f valid is world)
      (λ other valid_other apart world. other_removed id other vol f valid valid_other apart is world)
      (λ world. aside_removed vol (path_of id f) world)
      (subst (λ p. StandsBeforeOrAfter (removed vol p) old new) same call)

-- the same at a path's text
module _ (id vol : ℕ) (f : BlockFile) (number : ℕ) (valid : IsBlockId id) (is : IsTrue (is_file f)) (stands_aside : is_aside_file f ≡ true) (path : List ℕ) (same : path ≡ path_of id f)
    (old new : Option (List World)) where
  pub reaches_created_at : {HasAnswer : World → Type 0} → PicksOne HasAnswer (created (draft_at number vol path)) old new →
      Reaches id (λ before after. after ≡ create_in before vol f number) old new
  reaches_created_at {HasAnswer} call =
      reaches_created id vol f number valid is stands_aside old new (subst (λ p. PicksOne HasAnswer (created (draft_at number vol p)) old new) same call)

  pub reaches_create_at : StandsBeforeOrAfter (created (draft_at number vol path)) old new →
      Reaches id (λ before after. Fails before (create_in before vol f number) after) old new
  reaches_create_at call =
      reaches_create id vol f number valid is stands_aside old new (subst (λ p. StandsBeforeOrAfter (created (draft_at number vol p)) old new) same call)
