pub mod Bases
pub mod Chunks
pub mod Deciding
pub mod HeaderFront
pub mod Lengths
pub mod Pieces
