pub mod CrcLemmas
pub mod HeaderLemmas
pub mod SumLemmas
pub mod VerdictLemmas
pub mod ChecksumProofs
