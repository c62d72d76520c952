use Rattle.std.proofs.Common.{◌≡◌, ℕ, subst, arith}
use Rattle.pair_draft.specs.Files.{file_bytes}
use Rattle.pair_draft.specs.Writers.{writer_of}
use Rattle.pair_draft.specs.Bases.{HasBase}
use Rattle.pair_draft.proofs.base.copy_base.Goals as goal

pub returns-clause-base : goal.returns-clause-base
returns-clause-base g c = λ told pushed.
    let i = c.pieces.invariant in
    let all_done : c.pieces.done ≡ c.args.len = (let within = i.within in omega (arith, within)) in
    subst (λ (n : ℕ). HasBase told (file_bytes g.D.Reader.Reader.bytes c.args.block.now) n (writer_of g.D.Draft.Draft.place g.D.Draft.Draft.bytes c.pieces.writer))
    all_done (i.base told pushed)
