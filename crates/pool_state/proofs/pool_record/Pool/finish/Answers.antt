use Rattle.std.proofs.Common.{◌≡◌, Some, None, [], false, inr, refl, sym, ◌∙◌, ap, subst, arith}
use Rattle.disk_model.proofs.GoingOn.{went_call, went_then}
use Rattle.volume_layout.proofs.Reading.{is_stamp-IsStamp}
use Rattle.map_model.specs.Cells.{Replica, final, unsure}
use Rattle.map_model.specs.Steps.{Step, finish, failed, done}
use Rattle.pool_state.proofs.AnyRoom.{any_room}
use Rattle.volume_layout.specs.declared.block_file.BlockFile.TheVariants.{Block, Meta, WritingBlock, WritingMeta}
use Rattle.map_model.specs.Slots.{View, publish_in}
use Rattle.map_model.specs.Stands.{in_doubt, is_final}
use Rattle.map_model.specs.Tenures.{books_of, final_entry, Fails, meta_failed, block_failed}
use Rattle.pool_state.specs.Reaching.{Then}
use Rattle.pool_state.proofs.Reaching.{reaches_then}
use Rattle.map_model.specs.Sound.{learned}
use Rattle.pool_state.specs.Writers.{meta_of}
use Rattle.replica_map.specs.declared.entry.State.TheVariants.{Finalised, Unsure}
use Rattle.pool_state.specs.Books.{books_with}
use Rattle.pool_state.specs.BookSteps.{in_state, with_replica}
use Rattle.pool_state.proofs.Changing.{pool_stands, learns}
use Rattle.pool_state.proofs.Entries.{with_entry, become, has_entry, same_writer, writer_left, settled, settled_as}
use Rattle.pool_state.proofs.Foreign.{foreign_published, foreign_then}
use Rattle.pool_state.proofs.Showing.{begins, calls, shown, takes_learning, passes_end}
use Rattle.pool_state.proofs.Ends.{meta_fits, reaches_published_at, reaches_publish_at, same_told, finish_step, meta_stands, block_stands, new_passes, finish_doubts, finish_ends, writer}
use Rattle.pool_state.proofs.pool_record.Pool.finish.Goals as goal

pub unreachable-requires : goal.unreachable-requires
unreachable-requires g c =
    let belongs = c.requires.belongs.1 in
    absurd (has_entry c.args.self.now.map c.args.pair.id (writer c.requires.stands.1 _ c.requires.belongs.0 belongs) belongs.is (sym c.find.ensures.value ∙ c.in_default.is))

pub publish-requires : goal.publish-requires
publish-requires g c = record { stands = meta_stands c.requires.stands.1 _ _ c.requires.belongs.1 }

pub returns-in-Err-clause-step : goal.returns-in-Err-clause-step
returns-in-Err-clause-step g c cells bytes left belongs stands grows =
    let p = c.args.pair in
    let map = c.args.self.now.map in
    let e = c.in-Some.entry in
    let w = writer stands _ bytes belongs in
    let said = same_writer map p.id w e belongs.is (sym c.find.ensures.value ∙ c.in-Some.is) in
    let none = writer_left map p.id w belongs.is in
    let new : Replica = record { stamp = p.stamp; bytes = bytes } in
    let step : View → View → Type 0 = λ before after. Fails before (publish_in before p.vol (WritingMeta p.stamp) (Meta p.stamp) (meta_of belongs)) after in
    let reaches = reaches_publish_at p.id p.vol (WritingMeta p.stamp) (Meta p.stamp) belongs.meta_number (meta_of belongs) _ belongs.valid.0
    (is_stamp-IsStamp p.stamp belongs.valid.1) (is_stamp-IsStamp p.stamp belongs.valid.1) _ _ belongs.meta (c.as_str.ensures ∙ c.meta_path.ensures) _ _
    (λ told. same_told _ _ (belongs.sealed.meta_bytes told)) c.in-Err.ensures.worlds in
    takes_learning (learned p.id p.stamp (meta_of belongs)) refl (unsure None (Some new) false)
    (subst (λ cell. Step any_room cell finish failed (unsure None (Some new) false)) (sym grows) (finish_step p.stamp left bytes failed (unsure None (Some new) false) (inr refl)))
    (λ e. refl, λ e. absurd cc)
    (λ known was. let old = learns was p.id p.stamp left bytes (meta_of belongs) grows in (
      pool_stands old p.id belongs.valid.0 reaches c.in-Err.ensures.volumes (finish_doubts old _ bytes belongs left grows (meta_fits known belongs) step (λ before after stepped. meta_failed after stepped))
          (settled_as p.id _ _ _ _ (settled map c.put.new.map (λ l. books_with None (Some (record e { state = Unsure })) l) c.in-Some.ensures.own c.put.ensures.books none)
          (ap (λ be. books_of (Some (record be { state = in_doubt None })) [] None) said)),
      calls _ (begins _ _) c.in-Err.ensures.time.nothing_else (shown old p.id belongs.valid.0 step _ reaches (unsure None (Some new) false)
          (passes_end old p.id belongs.valid.0 (finish_doubts old _ bytes belongs left grows (meta_fits known belongs) step (λ before after stepped. meta_failed after stepped)))),
    )) stands

pub publish-requires-2 : goal.publish-requires-2
publish-requires-2 g c =
    let p = c.args.pair in
    let belongs = c.requires.belongs.1 in
    record {
      stands = block_stands c.requires.stands.1 _ _ belongs _
          (reaches_published_at p.id p.vol (WritingMeta p.stamp) (Meta p.stamp) belongs.meta_number (meta_of belongs) _ belongs.valid.0
          (is_stamp-IsStamp p.stamp belongs.valid.1) (is_stamp-IsStamp p.stamp belongs.valid.1) _ _ belongs.meta (c.as_str.ensures ∙ c.meta_path.ensures) _ _
          (λ told. same_told _ _ (belongs.sealed.meta_bytes told)) c.in-Ok.ensures.ok);
    }

pub returns-in-Err-publish-clause-step : goal.returns-in-Err-publish-clause-step
returns-in-Err-publish-clause-step g c cells bytes left belongs stands grows =
    let p = c.args.pair in
    let map = c.args.self.now.map in
    let e = c.in-Some.entry in
    let w = writer stands _ bytes belongs in
    let said = same_writer map p.id w e belongs.is (sym c.find.ensures.value ∙ c.in-Some.is) in
    let none = writer_left map p.id w belongs.is in
    let new : Replica = record { stamp = p.stamp; bytes = bytes } in
    let one : View → View → Type 0 = λ before after. after ≡ publish_in before p.vol (WritingMeta p.stamp) (Meta p.stamp) (meta_of belongs) in
    let step : View → View → Type 0 = Then one (λ before after. Fails before (publish_in before p.vol WritingBlock Block bytes) after) in
    let first = reaches_published_at p.id p.vol (WritingMeta p.stamp) (Meta p.stamp) belongs.meta_number (meta_of belongs) _ belongs.valid.0
    (is_stamp-IsStamp p.stamp belongs.valid.1) (is_stamp-IsStamp p.stamp belongs.valid.1) _ _ belongs.meta (c.as_str.ensures ∙ c.meta_path.ensures) _ _
    (λ told. same_told _ _ (belongs.sealed.meta_bytes told)) c.in-Ok.ensures.ok in
    let reaches = reaches_then p.id _ _ _ _ _ first
    (reaches_publish_at p.id p.vol WritingBlock Block belongs.block_number bytes _ belongs.valid.0
    refl refl _ _ belongs.block (c.as_str-2.ensures ∙ c.block_path.ensures) _ _
    (λ told. same_told _ _ (belongs.sealed.block_bytes (c.in-Ok.ensures.worlds.honest.1 told))) c.in-Err-publish.ensures.worlds) in
    takes_learning (learned p.id p.stamp (meta_of belongs)) refl (unsure None (Some new) false)
    (subst (λ cell. Step any_room cell finish failed (unsure None (Some new) false)) (sym grows) (finish_step p.stamp left bytes failed (unsure None (Some new) false) (inr refl)))
    (λ e. refl, λ e. absurd cc)
    (λ known was. let old = learns was p.id p.stamp left bytes (meta_of belongs) grows in (
      pool_stands old p.id belongs.valid.0 reaches (c.in-Err-publish.ensures.volumes ∙ c.in-Ok.ensures.volumes) (finish_doubts old _ bytes belongs left grows (meta_fits known belongs) step
          (λ before after stepped. block_failed after (subst (λ v. Fails v (publish_in v p.vol WritingBlock Block bytes) after) stepped.1 stepped.2)))
          (settled_as p.id _ _ _ _ (settled map c.put-in-Err-publish.new.map (λ l. books_with None (Some (record e { state = Unsure })) l) c.in-Some.ensures.own c.put-in-Err-publish.ensures.books none)
          (ap (λ be. books_of (Some (record be { state = in_doubt None })) [] None) said)),
      calls _ (calls _ (begins _ _) c.in-Ok.ensures.time.nothing_else (shown old p.id belongs.valid.0 one _ first (unsure None (Some new) false)
          (passes_end old p.id belongs.valid.0 (finish_doubts old _ bytes belongs left grows (meta_fits known belongs) one (λ before after stepped. meta_failed after (inr stepped))))))
          c.in-Err-publish.ensures.time.nothing_else (shown old p.id belongs.valid.0 step _ reaches (unsure None (Some new) false)
          (passes_end old p.id belongs.valid.0 (finish_doubts old _ bytes belongs left grows (meta_fits known belongs) step
          (λ before after stepped. block_failed after (subst (λ v. Fails v (publish_in v p.vol WritingBlock Block bytes) after) stepped.1 stepped.2))))),
    )) stands

pub returns-clause-step : goal.returns-clause-step
returns-clause-step g c cells bytes left belongs stands grows =
    let p = c.args.pair in
    let map = c.args.self.now.map in
    let e = c.in-Some.entry in
    let w = writer stands _ bytes belongs in
    let said = same_writer map p.id w e belongs.is (sym c.find.ensures.value ∙ c.in-Some.is) in
    let none = writer_left map p.id w belongs.is in
    let new : Replica = record { stamp = p.stamp; bytes = bytes } in
    let one : View → View → Type 0 = λ before after. after ≡ publish_in before p.vol (WritingMeta p.stamp) (Meta p.stamp) (meta_of belongs) in
    let step : View → View → Type 0 = Then one (λ before after. after ≡ publish_in before p.vol WritingBlock Block bytes) in
    let first = reaches_published_at p.id p.vol (WritingMeta p.stamp) (Meta p.stamp) belongs.meta_number (meta_of belongs) _ belongs.valid.0
    (is_stamp-IsStamp p.stamp belongs.valid.1) (is_stamp-IsStamp p.stamp belongs.valid.1) _ _ belongs.meta (c.as_str.ensures ∙ c.meta_path.ensures) _ _
    (λ told. same_told _ _ (belongs.sealed.meta_bytes told)) c.in-Ok.ensures.ok in
    let reaches = reaches_then p.id _ _ _ _ _ first
    (reaches_published_at p.id p.vol WritingBlock Block belongs.block_number bytes _ belongs.valid.0
    refl refl _ _ belongs.block (c.as_str-2.ensures ∙ c.block_path.ensures) _ _
    (λ told. same_told _ _ (belongs.sealed.block_bytes (c.in-Ok.ensures.worlds.honest.1 told))) c.in-Ok-publish.ensures.ok) in
    takes_learning (learned p.id p.stamp (meta_of belongs)) refl (final new)
    (subst (λ cell. Step any_room cell finish done (final new)) (sym grows) (finish_step p.stamp left bytes done (final new) (refl, refl)))
    (λ e. absurd cc, λ e. refl)
    (λ known was. let old = learns was p.id p.stamp left bytes (meta_of belongs) grows in (
      pool_stands old p.id belongs.valid.0 reaches (c.in-Ok-publish.ensures.volumes ∙ c.in-Ok.ensures.volumes) (finish_ends old _ bytes belongs left grows (meta_fits known belongs) step
          (λ before after stepped. stepped.2 ∙ ap (λ v. publish_in v p.vol WritingBlock Block bytes) stepped.1))
          (settled_as p.id _ _ _ _ (settled map c.put-2.new.map (λ l. books_with None (Some (record e { len = p.len; state = Finalised })) l) c.in-Some.ensures.own c.put-2.ensures.books none)
          (ap (λ be. books_of (Some (record be { len = p.len; state = is_final })) [] None) said ∙ ap (λ n. books_of (Some (final_entry w n)) [] None) belongs.sealed.len)),
      calls _ (calls _ (begins _ _) c.in-Ok.ensures.time.nothing_else (shown old p.id belongs.valid.0 one _ first (final new)
          (new_passes old _ bytes belongs left grows (meta_fits known belongs) (finish_doubts old _ bytes belongs left grows (meta_fits known belongs) one (λ before after stepped. meta_failed after (inr stepped))))))
          c.in-Ok-publish.ensures.time.nothing_else (shown old p.id belongs.valid.0 step _ reaches (final new)
          (passes_end old p.id belongs.valid.0 (finish_ends old _ bytes belongs left grows (meta_fits known belongs) step
          (λ before after stepped. stepped.2 ∙ ap (λ v. publish_in v p.vol WritingBlock Block bytes) stepped.1)))),
    )) stands

pub returns-in-Err-publish-clause-goes_on : goal.returns-in-Err-publish-clause-goes_on
returns-in-Err-publish-clause-goes_on g c = went_then g.D.PoolDisks _ _ _
    (went_call g.D.PoolDisks (g.met.D.PoolDisks.counts_now _) c.in-Ok.ensures.time c.in-Ok.ensures.worlds.honest c.in-Ok.ensures.cause.later c.in-Ok.ensures.absences (omega (arith, c.in-Ok.ensures.numbers)) c.in-Ok.ensures.volumes)
    (went_call g.D.PoolDisks (g.met.D.PoolDisks.counts_now _) c.in-Err-publish.ensures.time c.in-Err-publish.ensures.worlds.honest c.in-Err-publish.ensures.cause.later c.in-Err-publish.ensures.absences (omega (arith, c.in-Err-publish.ensures.numbers)) c.in-Err-publish.ensures.volumes)

pub returns-clause-goes_on : goal.returns-clause-goes_on
returns-clause-goes_on g c = went_then g.D.PoolDisks _ _ _
    (went_call g.D.PoolDisks (g.met.D.PoolDisks.counts_now _) c.in-Ok.ensures.time c.in-Ok.ensures.worlds.honest c.in-Ok.ensures.cause.later c.in-Ok.ensures.absences (omega (arith, c.in-Ok.ensures.numbers)) c.in-Ok.ensures.volumes)
    (went_call g.D.PoolDisks (g.met.D.PoolDisks.counts_now _) c.in-Ok-publish.ensures.time c.in-Ok-publish.ensures.worlds.honest c.in-Ok-publish.ensures.cause.later c.in-Ok-publish.ensures.absences (omega (arith, c.in-Ok-publish.ensures.numbers)) c.in-Ok-publish.ensures.volumes)

pub returns-in-Err-clause-goes_on : goal.returns-in-Err-clause-goes_on
returns-in-Err-clause-goes_on g c =
    went_call g.D.PoolDisks (g.met.D.PoolDisks.counts_now _) c.in-Err.ensures.time c.in-Err.ensures.worlds.honest c.in-Err.ensures.cause.later c.in-Err.ensures.absences (omega (arith, c.in-Err.ensures.numbers)) c.in-Err.ensures.volumes

pub returns-in-Err-clause-books : goal.returns-in-Err-clause-books
returns-in-Err-clause-books g c =
    let map = c.args.self.now.map in
    let e = c.in-Some.entry in
    become map c.put.new.map (λ l. books_with None (Some (record e { state = Unsure })) l) c.in-Some.ensures.own c.put.ensures.books
    ∙ sym (ap (in_state (in_doubt None)) (with_entry map c.args.pair.id e (sym c.find.ensures.value ∙ c.in-Some.is)))

pub returns-in-Err-publish-clause-books : goal.returns-in-Err-publish-clause-books
returns-in-Err-publish-clause-books g c =
    let map = c.args.self.now.map in
    let e = c.in-Some.entry in
    become map c.put-in-Err-publish.new.map (λ l. books_with None (Some (record e { state = Unsure })) l) c.in-Some.ensures.own c.put-in-Err-publish.ensures.books
    ∙ sym (ap (in_state (in_doubt None)) (with_entry map c.args.pair.id e (sym c.find.ensures.value ∙ c.in-Some.is)))

pub returns-clause-books : goal.returns-clause-books
returns-clause-books g c =
    let map = c.args.self.now.map in
    let e = c.in-Some.entry in
    become map c.put-2.new.map (λ l. books_with None (Some (record e { len = c.args.pair.len; state = Finalised })) l) c.in-Some.ensures.own c.put-2.ensures.books
    ∙ sym (ap (with_replica c.args.pair.len) (with_entry map c.args.pair.id e (sym c.find.ensures.value ∙ c.in-Some.is)))

pub returns-in-Err-clause-foreign : goal.returns-in-Err-clause-foreign
returns-in-Err-clause-foreign g c =
    let p = c.args.pair in
    let belongs = c.requires.belongs.1 in
    foreign_published p.id (WritingMeta p.stamp) (Meta p.stamp) belongs.valid.0 (is_stamp-IsStamp p.stamp belongs.valid.1) (is_stamp-IsStamp p.stamp belongs.valid.1)
    _ _ _ belongs.meta _ _ (c.as_str.ensures ∙ c.meta_path.ensures) c.in-Err.ensures.worlds c.in-Err.ensures.time

pub returns-in-Err-publish-clause-foreign : goal.returns-in-Err-publish-clause-foreign
returns-in-Err-publish-clause-foreign g c =
    let p = c.args.pair in
    let belongs = c.requires.belongs.1 in
    foreign_then (foreign_published p.id (WritingMeta p.stamp) (Meta p.stamp) belongs.valid.0 (is_stamp-IsStamp p.stamp belongs.valid.1) (is_stamp-IsStamp p.stamp belongs.valid.1)
    _ _ _ belongs.meta _ _ (c.as_str.ensures ∙ c.meta_path.ensures) c.in-Ok.ensures.worlds c.in-Ok.ensures.time)
    (foreign_published p.id WritingBlock Block belongs.valid.0 refl refl
    _ _ _ belongs.block _ _ (c.as_str-2.ensures ∙ c.block_path.ensures) c.in-Err-publish.ensures.worlds c.in-Err-publish.ensures.time)

pub returns-clause-foreign : goal.returns-clause-foreign
returns-clause-foreign g c =
    let p = c.args.pair in
    let belongs = c.requires.belongs.1 in
    foreign_then (foreign_published p.id (WritingMeta p.stamp) (Meta p.stamp) belongs.valid.0 (is_stamp-IsStamp p.stamp belongs.valid.1) (is_stamp-IsStamp p.stamp belongs.valid.1)
    _ _ _ belongs.meta _ _ (c.as_str.ensures ∙ c.meta_path.ensures) c.in-Ok.ensures.worlds c.in-Ok.ensures.time)
    (foreign_published p.id WritingBlock Block belongs.valid.0 refl refl
    _ _ _ belongs.block _ _ (c.as_str-2.ensures ∙ c.block_path.ensures) c.in-Ok-publish.ensures.worlds c.in-Ok-publish.ensures.time)
