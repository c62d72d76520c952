use Rattle.std.proofs.Common.{rules}
use Rattle.meta_file.proofs.HeaderLemmas.{big_endian-big_bytes}
use Rattle.meta_file.proofs.summer.put_sum.Goals as goal

pub returns-clause-value : goal.returns-clause-value
returns-clause-value c = big_endian-big_bytes c.args.sum (search rules)
