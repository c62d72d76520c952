use Rattle.pool_state.proofs.tests.read_block.Goals as goal

pub returns-in_err-block : goal.returns-in_err-block
returns-in_err-block g c =
    let stands = c.requires.stands in
    record { stands = (stands.0, (c.start_read.ensures.quiet stands.0 stands.1).0.stands _ stands.1) }

pub returns-in_err-reader_front : goal.returns-in_err-reader_front
returns-in_err-reader_front g c =
    let stands = c.requires.stands in
    record { stands = (stands.0, (c.start_read.ensures.quiet stands.0 stands.1).0.stands _ stands.1) }

pub returns-in_err-reader_front-2 : goal.returns-in_err-reader_front-2
returns-in_err-reader_front-2 g c =
    let stands = c.requires.stands in
    record { stands = (stands.0, (c.start_read.ensures.quiet stands.0 stands.1).0.stands _ stands.1) }

pub returns : goal.returns
returns g c =
    let stands = c.requires.stands in
    record { stands = (stands.0, (c.start_read.ensures.quiet stands.0 stands.1).0.stands _ stands.1) }
