pub mod Tracking
pub mod Ranks
pub mod Distinct
