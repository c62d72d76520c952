pub mod Digits
pub mod WrittenLemmas
pub mod ReadingLemmas
pub mod CheckLemmas
