use Rattle.pool_state.specs.Stands.{with_cell}
use Rattle.pool_state.proofs.tests.refused_meanwhile.Goals as goal

pub start_read-requires : goal.start_read-requires
start_read-requires g c =
    let step = (c.start_write.ensures.step c.requires.stands.0 c.requires.stands.1).0 in
    record { stands = (with_cell c.requires.stands.0 c.args.id step.to.cell, step.to.stands _ c.requires.stands.1) }
