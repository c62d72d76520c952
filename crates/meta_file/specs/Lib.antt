pub mod Checksums
pub mod ChecksumLaws
pub mod Tables
pub mod Headers
pub mod Sums
pub mod Verdicts
pub mod Texts
