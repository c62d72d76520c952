use Rattle.std.proofs.Common.{◌≡◌, ◌-◌, ◌++◌, inl, inr, Some, None, Err, refl, sym, ◌∙◌, ap, subst, arith, option_map}
use Rattle.std.specs.Prelude.{MatchOption, IsSome}
use Rattle.std.proofs.lemmas.Option.{same_Some}
use Rattle.map_model.specs.Cells.{growing}
use Rattle.map_model.specs.Sound.{matching}
use Rattle.map_model.specs.Steps.{Step, push, done, failed, memory, over, no_writer}
use Rattle.pool_state.proofs.AnyRoom.{any_room}
use Rattle.pool_state.specs.Answers.{StepsTo}
use Rattle.pool_state.specs.Books.{block_books}
use Rattle.pool_state.specs.Rooms.{choosing_of}
use Rattle.pool_state.specs.BookSteps.{given_up}
use Rattle.pool_state.specs.Stands.{PoolStands}
use Rattle.pair_draft.specs.Writers.{writer_of}
use Rattle.pool_state.proofs.Belonging.{stands_pushed}
use Rattle.pool_state.proofs.Pushing.{pushes}
use Rattle.run_session.specs.Standing.{NotGrowing, OpenWriter}
use Rattle.run_session.proofs.Stepping.{loose, at_block, crash_takes, crash_same, crash_only, goes_on, stays_on, carried_same, carried_on, seen_same, put_back, took, mapped_none, mapped_some, writer_of_block, no_writer_of_block, open_goes_on, everywhere}
use Rattle.run_session.proofs.Stepped.{no_push, over_push, memory_push, failed_push, failed_not_memory, rose_above, faulty_block, has_meta, grows_not}
use Rattle.run_session.proofs.Booked.{books_change}
use Rattle.run_session.proofs.session.Session.push.Goals as goal

pub returns-in_default-clause-step : goal.returns-in_default-clause-step
returns-in_default-clause-step g c state standing =
    let id = c.args.id in
    let f = writer_of g.D.Draft.Draft.place g.D.Draft.Draft.bytes in
    let none = mapped_none _ _ (sym c.room_left.ensures.left ∙ c.in_default.is) in
    let rests = no_writer_of_block _ _ _ (ap (option_map f) none) (standing.writer id c.room_left.ensures.valid) in
    carried_same (any_room, 1, tt) standing (crash_same _ _ _) no_writer (λ trust known. refl) (no_push (state.cells id) c.args.piece.now rests) (λ e. absurd cc) (λ e w. absurd cc) refl refl (λ no. absurd no) refl refl

pub returns-then-piece-left-clause-step : goal.returns-then-piece-left-clause-step
returns-then-piece-left-clause-step g c state standing =
    let id = c.args.id in
    let left = c.in-Some.left in
    let f = writer_of g.D.Draft.Draft.place g.D.Draft.Draft.bytes in
    let some = mapped_some _ _ left (sym c.room_left.ensures.left ∙ c.in-Some.is) in
    let at = writer_of_block _ _ _ (f some.0) (ap (option_map f) some.1) (standing.writer id c.room_left.ensures.valid) in
    let cell : state.cells id ≡ growing some.0.stamp None at.bytes left = at.grows ∙ ap (λ n. growing some.0.stamp None at.bytes n) some.2 in
    carried_same (any_room, 1, tt) standing (crash_same _ _ _) (over left) (λ trust known. refl)
    (subst (λ x. Step any_room x (push c.args.piece.now) (over left) x) (sym cell) (over_push some.0.stamp left at.bytes c.args.piece.now (omega arith)))
    (λ e. absurd cc) (λ e w. absurd cc) refl refl (λ no. absurd no) refl refl

pub returns-in-Err-clause-step : goal.returns-in-Err-clause-step
returns-in-Err-clause-step g c state standing =
    let id = c.args.id in
    let left = c.in-Some.left in
    let f = writer_of g.D.Draft.Draft.place g.D.Draft.Draft.bytes in
    let some = mapped_some _ _ left (sym c.room_left.ensures.left ∙ c.in-Some.is) in
    let at = writer_of_block _ _ _ (f some.0) (ap (option_map f) some.1) (standing.writer id c.room_left.ensures.valid) in
    let cell : state.cells id ≡ growing some.0.stamp None at.bytes left = at.grows ∙ ap (λ n. growing some.0.stamp None at.bytes n) some.2 in
    let is_memory : c.in-Err.reply ≡ Rattle.script_lang.specs.declared.reply.Reply.TheVariants.Memory = elim c.in-Err.ensures.refused [
      | inl absent ↦ absurd (let bad : None ≡ Some some.0 = sym absent.1 ∙ some.1 in cc)
      | inr wanting ↦ wanting.0
    ] in
    carried_same (any_room, 1, tt) (stays_on refl standing standing.pool (λ t. t) (λ other. refl) (seen_same f _ _ c.in-Err.ensures.same))
    (crash_same _ _ _) memory (λ trust known. is_memory)
    (subst (λ x. Step any_room x (push c.args.piece.now) memory x) (sym cell) (memory_push some.0.stamp left at.bytes c.args.piece.now (omega arith)))
    (λ e. absurd cc) (λ e w. absurd (grows_not (state.cells id) some.0.stamp at.bytes left cell w)) refl refl (λ no. absurd no) refl refl

pub push-requires : goal.push-requires
push-requires g c =
    let f = writer_of g.D.Draft.Draft.place g.D.Draft.Draft.bytes in
    let w = c.in-Ok.writer in
    let at = writer_of_block _ _ _ (f w) (ap (option_map f) c.in-Ok.ensures.ok) (c.requires.stands.1.writer c.args.id c.take.ensures.valid) in
    record { whole = has_meta g.D.Draft.Draft.place w.meta _ at.stands.meta }

pub returns-in-Ok-push-clause-step : goal.returns-in-Ok-push-clause-step
returns-in-Ok-push-clause-step g c state standing =
    let id = c.args.id in
    let w = c.in-Ok.writer in
    let new = c.push.new.self in
    let f = writer_of g.D.Draft.Draft.place g.D.Draft.Draft.bytes in
    let told = g.D.PoolDisks.worlds c.args.self.now.pool.disks in
    let volumes = g.D.PoolDisks.volume_count c.args.self.now.pool.disks in
    let books = block_books c.args.self.now.pool.map in
    let piece = c.args.piece.now in
    let at = writer_of_block _ _ _ (f w) (ap (option_map f) c.in-Ok.ensures.ok) (standing.writer id c.take.ensures.valid) in
    let grows : state.cells w.id ≡ growing w.stamp None at.bytes (w.reserved - w.len) = ap state.cells at.of ∙ at.grows in
    let done_so = c.in-Ok-push.ensures in
    let keeps_meta = ap (option_map g.D.Draft.Draft.place) done_so.goes_on in
    let there = pushes {room = any_room} told volumes books state.cells (f w) at.bytes piece new.stamp new.len new.reserved at.stands grows done_so.within done_so.keeps.stamp done_so.len done_so.keeps.reserved in
    let t = subst (λ n. StepsTo any_room n (push piece) done (λ cell. cell ≡ growing new.stamp None (at.bytes ++ piece) (new.reserved - new.len)) state.cells
    (PoolStands told volumes books) (PoolStands told volumes books)) at.of there in
    let seen = put_back f id new.id _ _ _ new (done_so.keeps.id ∙ at.of) c.in-Ok.ensures.taken c.put.ensures.put in
    carried_on (any_room, 1, tt) t.cell books (choosing_of c.args.self.now.pool)
    (goes_on standing id t.cell state.writers (t.stands _ standing.pool) (λ x. x) (λ other apart. refl) seen.0 (λ other apart. refl)
    (subst (λ o. MatchOption o (NotGrowing t.cell) (OpenWriter told books id t.cell (state.writers id))) (sym seen.1)
    (open_goes_on told told books books id (state.cells id) t.cell (state.writers id) (f w) (f new) (at.bytes ++ piece) at done_so.keeps keeps_meta
    (stands_pushed at.stands done_so.keeps keeps_meta (done_so.pushed told at.bytes at.stands.pushed)) t.says)))
    (crash_only (t.stands matching)) done (λ trust known. refl) t.step (λ e. absurd cc) (λ e x. absurd cc) refl refl (λ no. absurd no) (books_change standing id books (refl, refl) (λ other apart. refl))

pub returns-in-Err-Failed-clause-step : goal.returns-in-Err-Failed-clause-step
returns-in-Err-Failed-clause-step g c state standing =
    let id = c.args.id in
    let w = c.in-Ok.writer in
    let new = c.push.new.self in
    let piece = c.args.piece.now in
    let left = c.in-Some.left in
    let f = writer_of g.D.Draft.Draft.place g.D.Draft.Draft.bytes in
    let some = mapped_some _ _ left (sym c.room_left.ensures.left ∙ c.in-Some.is) in
    let was = writer_of_block _ _ _ (f some.0) (ap (option_map f) some.1) (standing.writer id c.room_left.ensures.valid) in
    let cell : state.cells id ≡ growing some.0.stamp None was.bytes left = was.grows ∙ ap (λ n. growing some.0.stamp None was.bytes n) some.2 in
    let at = writer_of_block _ _ _ (f w) (ap (option_map f) c.in-Ok.ensures.ok) (standing.writer id c.take.ensures.valid) in
    let e = c.in-Err-Failed in
    let key : new.id ≡ id = e.ensures.keeps.id ∙ at.of in
    let faulty = e.ensures.failed (ap Err e.field-0-is) in
    let there = c.fail_write.ensures.step state.cells (push piece) some.0.stamp left was.bytes (loose standing) (ap state.cells key ∙ cell) (failed_push some.0.stamp left was.bytes piece (omega arith)) in
    let both = at_block key there in
    let t = both.0 in
    let seen = took f id _ _ c.in-Ok.ensures.taken in
    carried_on (any_room, 1, tt) t.to.cell (block_books c.fail_write.new.self.map) (choosing_of c.fail_write.new.self)
    (goes_on standing id t.to.cell state.writers (t.to.stands _ standing.pool) (λ x. subst IsSome (ap g.D.PoolDisks.worlds c.fail_write.ensures.disks) x) (λ other apart. c.fail_write.ensures.others other (λ same. apart (same ∙ key))) seen.0 (λ other apart. refl)
    (subst (λ o. MatchOption o (NotGrowing t.to.cell) (OpenWriter (g.D.PoolDisks.worlds c.fail_write.new.self.disks) (block_books c.fail_write.new.self.map) id t.to.cell (state.writers id))) (sym seen.1)
    (subst NotGrowing (sym t.to.says) tt)))
    (crash_takes both) failed (λ trust known. refl) t.to.step
    (λ same. inl (faulty_block g.D.Draft.Draft.place g.D.Draft.Draft.faults (state.writers id) new.block _ _ _ (e.ensures.keeps.block ∙ at.stands.block) at.block_given (rose_above _ _ faulty.1)))
    (λ bad x. absurd (failed_not_memory bad)) refl refl (λ no. absurd no)
    (books_change standing id _ (subst (λ n. block_books c.fail_write.new.self.map n ≡ given_up (block_books c.args.self.now.pool.map n)) key c.fail_write.ensures.books, c.fail_write.ensures.choosing) (λ other apart. c.fail_write.ensures.others other (λ same. apart (same ∙ key))))

-- which never comes, since what is left was asked before
pub returns-in-Err-Over-clause-step : goal.returns-in-Err-Over-clause-step
returns-in-Err-Over-clause-step g c state standing =
    let left = c.in-Some.left in
    let some = mapped_some _ _ left (sym c.room_left.ensures.left ∙ c.in-Some.is) in
    let e = c.in-Err-Over in
    let same = same_Some _ _ (sym some.1 ∙ c.in-Ok.ensures.ok) in
    let rest = ap (λ (w : _). w.reserved - w.len) same in
    let over = e.ensures.over e.left (ap Err e.field-0-is) in
    absurd (omega (arith, rest, some.2, over.1))

pub returns-in-Err-Memory-clause-step : goal.returns-in-Err-Memory-clause-step
returns-in-Err-Memory-clause-step g c state standing =
    let id = c.args.id in
    let w = c.in-Ok.writer in
    let new = c.push.new.self in
    let left = c.in-Some.left in
    let f = writer_of g.D.Draft.Draft.place g.D.Draft.Draft.bytes in
    let some = mapped_some _ _ left (sym c.room_left.ensures.left ∙ c.in-Some.is) in
    let at = writer_of_block _ _ _ (f some.0) (ap (option_map f) some.1) (standing.writer id c.room_left.ensures.valid) in
    let cell : state.cells id ≡ growing some.0.stamp None at.bytes left = at.grows ∙ ap (λ n. growing some.0.stamp None at.bytes n) some.2 in
    let one = writer_of_block _ _ _ (f w) (ap (option_map f) c.in-Ok.ensures.ok) (standing.writer id c.take.ensures.valid) in
    let e = c.in-Err-Memory in
    let seen = put_back f id new.id _ _ _ new (e.ensures.keeps.id ∙ one.of) c.in-Ok.ensures.taken c.put-in-Err-Memory.ensures.put in
    carried_same (any_room, 1, tt) (stays_on refl standing standing.pool (λ t. t) (λ other. refl)
    (everywhere id _ _ seen.0 (seen.1 ∙ ap Some (e.ensures.same_memory (ap Err e.field-0-is)) ∙ sym (ap (option_map f) c.in-Ok.ensures.ok))))
    (crash_same _ _ _) memory (λ trust known. refl)
    (subst (λ x. Step any_room x (push c.args.piece.now) memory x) (sym cell) (memory_push some.0.stamp left at.bytes c.args.piece.now (omega arith)))
    (λ e. absurd cc) (λ e x. absurd (grows_not (state.cells id) some.0.stamp at.bytes left cell x)) refl refl (λ no. absurd no) refl refl
