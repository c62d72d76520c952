use Rattle.meta_file.proofs.ChecksumProofs as laws
use Rattle.meta_file.proofs.checksums.some_match.Goals as goal

pub returns : goal.returns
returns c = laws.some_match
