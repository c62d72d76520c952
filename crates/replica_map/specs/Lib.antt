pub mod Rising
pub mod Counting
pub mod Books
pub mod Kept
pub mod Leftovers
pub mod Uses
