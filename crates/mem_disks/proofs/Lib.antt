pub mod Held
pub mod Follows
pub mod Within
pub mod Directory
pub mod Listings
pub mod Remains
pub mod Bare
pub mod Pieces
