pub mod Shelves
pub mod History
pub mod HistoryLaws
pub mod Entries
pub mod Standing
pub mod Listing
pub mod Images
pub mod Streams
