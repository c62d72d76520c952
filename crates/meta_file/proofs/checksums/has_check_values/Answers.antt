use Rattle.meta_file.proofs.ChecksumProofs as laws
use Rattle.meta_file.proofs.checksums.has_check_values.Goals as goal

pub returns : goal.returns
returns c = laws.has_check_values
