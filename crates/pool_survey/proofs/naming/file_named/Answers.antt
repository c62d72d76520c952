use Rattle.std.proofs.Common.{sym, ◌∙◌}
use Rattle.pool_survey.proofs.NameLemmas.{no_block, no_meta}
use Rattle.pool_survey.proofs.naming.file_named.Goals as goal

pub returns-else-is_of-clause-none : goal.returns-else-is_of-clause-none
returns-else-is_of-clause-none c = no_block c.args.dir c.args.name.now c.in-Block.id c.in-Block.ensures (sym c.is_of.ensures ∙ c.if-is_of.false)

pub returns-else-is_of-2-clause-none : goal.returns-else-is_of-2-clause-none
returns-else-is_of-2-clause-none c = no_meta c.args.dir c.args.name.now c.in-Meta.id c.in-Meta.stamp c.in-Meta.ensures (sym c.is_of-in-Meta.ensures ∙ c.if-is_of-2.false)
