use Rattle.std.proofs.Common.{[], ◌∙◌, ap, option_map}
use Rattle.pool_state.proofs.Belonging.{writer_belongs, belongs_kept, stands_pushed, stands_sealed}
use Rattle.client_ops.proofs.writing.fill_writer.Goals as goal

pub returns-in-Err-Failed-clause-stands : goal.returns-in-Err-Failed-clause-stands
returns-in-Err-Failed-clause-stands g c told books stands =
    let keeps = c.in-Err-Failed.ensures.keeps in
    (keeps.id, keeps.stamp, belongs_kept (writer_belongs stands) keeps)

pub returns-in-Err-Over-clause-stands : goal.returns-in-Err-Over-clause-stands
returns-in-Err-Over-clause-stands g c told books stands =
    let keeps = c.in-Err-Over.ensures.keeps in
    (keeps.id, keeps.stamp, belongs_kept (writer_belongs stands) keeps)

pub returns-in-Ok-seal-clause-stands : goal.returns-in-Ok-seal-clause-stands
returns-in-Ok-seal-clause-stands g c told books stands =
    let pushed = c.in-Ok.ensures in
    let sealed = c.in-Ok-seal.ensures in
    let full = stands_pushed stands pushed.keeps (ap (option_map g.D.Draft.Draft.place) pushed.goes_on) (pushed.pushed told [] stands.pushed) in
    (sealed.id ∙ pushed.keeps.id, sealed.stamp ∙ pushed.keeps.stamp, stands_sealed full sealed.id sealed.stamp sealed.vol sealed.places.0 sealed.places.1 (sealed.sealed told _ full.pushed))

pub returns-in-Err-Failed-default-clause-stands : goal.returns-in-Err-Failed-default-clause-stands
returns-in-Err-Failed-default-clause-stands g c told books stands =
    let pushed = c.in-Ok.ensures.keeps in
    let keeps = c.in-Err-Failed-default.ensures.keeps in
    (keeps.id ∙ pushed.id, keeps.stamp ∙ pushed.stamp, belongs_kept (belongs_kept (writer_belongs stands) pushed) keeps)
