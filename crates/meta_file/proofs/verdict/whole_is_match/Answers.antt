use Rattle.meta_file.proofs.VerdictLemmas as laws
use Rattle.meta_file.proofs.verdict.whole_is_match.Goals as goal

pub returns : goal.returns
returns c = laws.whole_is_match
