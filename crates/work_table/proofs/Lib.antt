pub mod Snoc
pub mod Stepping
pub mod Adding
pub mod Tasks
pub mod Assigning
pub mod Cancelling
