use Rattle.std.proofs.Common.{◌≡◌, ◌+◌, ◌-◌, ◌*◌, ◌/◌, ◌≤◌, ◌<◌, ℕ, length, drop, sym, ap, ◌∙◌, arith, rules, length-take, length-append}
use Rattle.std.proofs.lemmas.List.{length-take-le}
use Rattle.meta_file.specs.declared.verdict.Verdict.TheVariants.{BadChunk, Short}
use Rattle.meta_file.specs.Sums.{polynomial}
use Rattle.pair_draft.proofs.Deciding.{differs, agree_on, agree_later, short, piece_is, stored_are, stored_length, chunks_before}
use Rattle.pair_draft.proofs.verification.check_piece.Goals as goal

pub returns-in-Some-clause-answer : goal.returns-in-Some-clause-answer
returns-in-Some-clause-answer g c = λ all sums block_is meta_is length_is agrees.
    let old = c.args.checker.now in
    let now = c.take_in-count.new.self in
    let have = c.in_ok-have.have in
    let count = c.take_in-count.result in
    let e = c.take_in-count.ensures in
    let way = c.requires.under_way in
    let given = c.in_ok-have.ensures.count all block_is in
    let few : have ≤ length all - old.at = omega (arith, given) in
    let read = c.in_ok-have.ensures.read all block_is in
    let taken = e.taken all agrees.taken (piece_is have old.at c.read_full.new.out _ all c.in_ok-have.ensures.within few read) in
    let are = e.sums all agrees.taken (piece_is have old.at c.read_full.new.out _ all c.in_ok-have.ensures.within few read) in
    let step_is : c.from.result ≡ old.step = search rules in
    let chunk_is : old.at / c.from.result ≡ old.at / old.summer.step = ap (λ (n : ℕ). old.at / n) (step_is ∙ sym way.step) in
    let here : old.at < old.len = c.requires.left in
    let fits = e.within in
    let auto = c.read_full-2.auto.out in
    let full : count ≡ length c.read_full-2.new.out = omega (arith, fits, auto, length-take {A = ℕ}) in
    let within : 7 + 4 * (old.at / old.summer.step) + count ≤ length sums = (let most = e.offsets in omega (arith, most, length_is)) in
    let many = c.in_ok-read_full.ensures.count sums meta_is in
    let same = c.in_ok-read_full.ensures.read sums meta_is in
    let before = chunks_before old.summer.step old.len old.at here in
    let reach : now.at ≤ old.len = (let w = e.under_way.within in let l = e.same.len in omega (arith, w, l)) in
    ap (λ (n : ℕ). BadChunk (n + c.in-Some.found.place) c.in-Some.found.stored c.in-Some.found.computed) chunk_is
    ∙ differs (polynomial old.summer.kind) old.summer.step old.len now.at (old.at / old.summer.step) all (drop 7 sums) _ _
    (λ chunk below. agrees.agree chunk (omega (arith, below, before)))
    are (stored_length c.read_full-2.new.out _ count full ∙ sym (length-take-le count c.take_in-count.new.computed fits))
    (stored_are sums c.read_full-2.new.out _ (old.at / old.summer.step) (old.at / c.from.result) count c.in_ok-read_full.field-0 chunk_is full within many same)
    way.stepped c.in-Some.found.place c.in-Some.found.stored c.in-Some.found.computed c.in-Some.ensures.some taken.within reach

pub returns-then-have-want-clause-answer : goal.returns-then-have-want-clause-answer
returns-then-have-want-clause-answer g c = λ all sums block_is meta_is length_is agrees.
    let old = c.args.checker.now in
    let now = c.take_in-count.new.self in
    let have = c.in_ok-have.have in
    let count = c.take_in-count.result in
    let e = c.take_in-count.ensures in
    let way = c.requires.under_way in
    let given = c.in_ok-have.ensures.count all block_is in
    let few : have ≤ length all - old.at = omega (arith, given) in
    let read = c.in_ok-have.ensures.read all block_is in
    let taken = e.taken all agrees.taken (piece_is have old.at c.read_full.new.out _ all c.in_ok-have.ensures.within few read) in
    let are = e.sums all agrees.taken (piece_is have old.at c.read_full.new.out _ all c.in_ok-have.ensures.within few read) in
    let step_is : c.from.result ≡ old.step = search rules in
    let chunk_is : old.at / c.from.result ≡ old.at / old.summer.step = ap (λ (n : ℕ). old.at / n) (step_is ∙ sym way.step) in
    let here : old.at < old.len = c.requires.left in
    let fits = e.within in
    let auto = c.read_full-2.auto.out in
    let full : count ≡ length c.read_full-2.new.out = omega (arith, fits, auto, length-take {A = ℕ}) in
    let within : 7 + 4 * (old.at / old.summer.step) + count ≤ length sums = (let most = e.offsets in omega (arith, most, length_is)) in
    let many = c.in_ok-read_full.ensures.count sums meta_is in
    let same = c.in_ok-read_full.ensures.read sums meta_is in
    let before = chunks_before old.summer.step old.len old.at here in
    let reach : now.at ≤ old.len = (let w = e.under_way.within in let l = e.same.len in omega (arith, w, l)) in
    let ended = c.if-have-want.true in
    let at_is = e.at in
    let inside = c.in_ok-have.ensures.within in
    let all_before = agrees.taken.within in
    let room = c.read_full.auto.out in
    let now_is : now.at ≡ old.at + have = omega (arith, at_is, inside, length-take {A = ℕ}, length-append {A = ℕ}) in
    let last : now.at ≡ length all = omega (arith, now_is, given, ended, room, all_before, length-take {A = ℕ}) in
    let early : now.at < old.len = omega (arith, now_is, ended, here) in
    ap (λ (n : ℕ). Short n now.at) e.same.len
    ∙ short (polynomial old.summer.kind) old.summer.step old.len now.at all (drop 7 sums) last early
    (agree_on (polynomial old.summer.kind) old.summer.step old.len now.at (old.at / old.summer.step) all (drop 7 sums) _ _
    (λ chunk below. agrees.agree chunk (omega (arith, below, before)))
    are (stored_length c.read_full-2.new.out _ count full ∙ sym (length-take-le count c.take_in-count.new.computed fits))
    (stored_are sums c.read_full-2.new.out _ (old.at / old.summer.step) (old.at / c.from.result) count c.in_ok-read_full.field-0 chunk_is full within many same)
    c.in_default.ensures.none)

pub returns-clause-answer : goal.returns-clause-answer
returns-clause-answer g c = λ all sums block_is meta_is length_is agrees.
    let old = c.args.checker.now in
    let now = c.take_in-count.new.self in
    let have = c.in_ok-have.have in
    let count = c.take_in-count.result in
    let e = c.take_in-count.ensures in
    let way = c.requires.under_way in
    let given = c.in_ok-have.ensures.count all block_is in
    let few : have ≤ length all - old.at = omega (arith, given) in
    let read = c.in_ok-have.ensures.read all block_is in
    let taken = e.taken all agrees.taken (piece_is have old.at c.read_full.new.out _ all c.in_ok-have.ensures.within few read) in
    let are = e.sums all agrees.taken (piece_is have old.at c.read_full.new.out _ all c.in_ok-have.ensures.within few read) in
    let step_is : c.from.result ≡ old.step = search rules in
    let chunk_is : old.at / c.from.result ≡ old.at / old.summer.step = ap (λ (n : ℕ). old.at / n) (step_is ∙ sym way.step) in
    let here : old.at < old.len = c.requires.left in
    let fits = e.within in
    let auto = c.read_full-2.auto.out in
    let full : count ≡ length c.read_full-2.new.out = omega (arith, fits, auto, length-take {A = ℕ}) in
    let within : 7 + 4 * (old.at / old.summer.step) + count ≤ length sums = (let most = e.offsets in omega (arith, most, length_is)) in
    let many = c.in_ok-read_full.ensures.count sums meta_is in
    let same = c.in_ok-read_full.ensures.read sums meta_is in
    let before = chunks_before old.summer.step old.len old.at here in
    let reach : now.at ≤ old.len = (let w = e.under_way.within in let l = e.same.len in omega (arith, w, l)) in
    record {
      taken = taken;
      agree = agree_later old.summer.kind old.summer.step old.len now.summer.kind now.summer.step now.len now.at (drop 7 sums) all e.same.kind e.same.summer_step e.same.len
          (agree_on (polynomial old.summer.kind) old.summer.step old.len now.at (old.at / old.summer.step) all (drop 7 sums) _ _
          (λ chunk below. agrees.agree chunk (omega (arith, below, before)))
          are (stored_length c.read_full-2.new.out _ count full ∙ sym (length-take-le count c.take_in-count.new.computed fits))
          (stored_are sums c.read_full-2.new.out _ (old.at / old.summer.step) (old.at / c.from.result) count c.in_ok-read_full.field-0 chunk_is full within many same)
          c.in_default.ensures.none);
    }
