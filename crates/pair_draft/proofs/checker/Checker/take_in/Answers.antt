use Rattle.std.proofs.Common.{◌≡◌, ℕ, ◌+◌, ◌%◌, ◌/◌, ◌*◌, ◌≤◌, List, length, refl, sym, ap, subst, ◌∙◌, arith, length-take, length-drop}
use Rattle.std.proofs.lemmas.Grind.{common_steps}
use Rattle.meta_file.specs.Sums.{polynomial}
use Rattle.pair_draft.specs.Checking.{AreSums}
use Rattle.pair_draft.proofs.Pieces.{take_put, filled_later}
use Rattle.pair_draft.proofs.Deciding.{batch_within}
use Rattle.pair_draft.proofs.Chunks.{taken_in, sums_inside, sums_at_end}
use Rattle.pair_draft.proofs.checker.Checker.take_in.Goals as goal

pub returns-then-self-clause-under_way : goal.returns-then-self-clause-under_way
returns-then-self-clause-under_way c =
    let way = c.requires.under_way in
    let e = c.sum_into-count.ensures in
    let fits = c.requires.fits in
    record {
      sums = let some = way.sums in omega (arith, e.kind, some);
      stepped = let some = way.stepped in omega (arith, e.step, some);
      step = e.step ∙ way.step;
      filled = filled_later c.args.self.now.at (length c.args.piece.now) way.filled e.filled e.step;
      within = fits;
    }

pub returns-clause-under_way : goal.returns-clause-under_way
returns-clause-under_way c =
    let way = c.requires.under_way in
    let e = c.sum_into-count.ensures in
    let fits = c.requires.fits in
    record {
      sums = let some = way.sums in omega (arith, e.kind, some);
      stepped = let some = way.stepped in omega (arith, e.step, some);
      step = e.step ∙ way.step;
      filled = filled_later c.args.self.now.at (length c.args.piece.now) way.filled e.filled e.step;
      within = fits;
    }

pub returns-then-self-clause-taken : goal.returns-then-self-clause-taken
returns-then-self-clause-taken c = λ block taken is.
    taken_in _ _ _ _ _ block c.sum_into-count.ensures.gives taken is

pub returns-clause-taken : goal.returns-clause-taken
returns-clause-taken c = λ block taken is.
    taken_in _ _ _ _ _ block c.sum_into-count.ensures.gives taken is

pub returns-then-self-clause-sums : goal.returns-then-self-clause-sums
returns-then-self-clause-sums c = λ block taken is.
    let way = c.requires.under_way in
    let e = c.sum_into-count.ensures in
    let filled = filled_later c.args.self.now.at (length c.args.piece.now) way.filled e.filled refl in
    sums_inside _ _ _ _ _ block e.gives taken is c.args.self.now.len way.sums way.stepped e.kind e.step way.filled filled c.if-self.true

pub returns-clause-sums : goal.returns-clause-sums
returns-clause-sums c = λ block taken is.
    let way = c.requires.under_way in
    let e = c.sum_into-count.ensures in
    let count = c.sum_into-count.result in
    let out = c.sum_into-count.new.out in
    let more = c.rest_into.result in
    let last = c.rest_into.new.out in
    let fits = c.requires.fits in
    let full = c.if-self.false in
    let end : c.args.self.now.at + length c.args.piece.now ≡ c.args.self.now.len = omega (arith, fits, full) in
    let few = c.requires.few in
    let some = way.stepped in
    let filled = way.filled in
    let small : count + 4 ≤ length out = grind (arith, common_steps) in
    let four = c.rest_into.ensures.few in
    let within : more ≤ length last = omega (arith, small, four, length-take {A = ℕ}, length-drop {A = ℕ}) in
    let put = take_put count more out last _ (omega (arith, small)) within in
    subst (λ (l : List ℕ). AreSums (polynomial c.args.self.now.summer.kind) c.args.self.now.summer.step c.args.self.now.len (c.args.self.now.at + length c.args.piece.now) (c.args.self.now.at / c.args.self.now.summer.step) block l) (sym put)
    (sums_at_end _ _ _ _ _ block e.gives taken is c.args.self.now.len way.sums way.stepped e.kind e.step way.filled _ c.rest_into.ensures.ends end)

pub returns-then-self-clause-offsets : goal.returns-then-self-clause-offsets
returns-then-self-clause-offsets c =
    let way = c.requires.under_way in
    let e = c.sum_into-count.ensures in
    let at = c.args.self.now.at in
    let len = length c.args.piece.now in
    let step = c.args.self.now.summer.step in
    let count : c.sum_into-count.result ≡ 4 * ((at % step + len) / step) = e.count ∙ ap (λ (n : ℕ). 4 * ((n + len) / step)) way.filled in
    let within = batch_within step at len c.sum_into-count.result 0 way.stepped count (omega arith) c.args.self.now.len c.requires.fits (λ _. refl) (λ _. refl) in
    omega (arith, within)

pub returns-clause-offsets : goal.returns-clause-offsets
returns-clause-offsets c =
    let way = c.requires.under_way in
    let e = c.sum_into-count.ensures in
    let at = c.args.self.now.at in
    let len = length c.args.piece.now in
    let step = c.args.self.now.summer.step in
    let filled = filled_later at len way.filled e.filled refl in
    let count : c.sum_into-count.result ≡ 4 * ((at % step + len) / step) = e.count ∙ ap (λ (n : ℕ). 4 * ((n + len) / step)) way.filled in
    let full = c.if-self.false in
    let r = c.rest_into.ensures in
    batch_within step at len c.sum_into-count.result c.rest_into.result way.stepped count r.few c.args.self.now.len c.requires.fits
    (λ early. absurd (omega (arith, full, early))) (λ none. r.none (filled ∙ none))
