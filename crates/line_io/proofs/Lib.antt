pub mod LineLemmas
pub mod Unread
pub mod NextLine
pub mod Appending
pub mod Feeds
