pub mod Reading
pub mod AsideLemmas
pub mod PathsApart
mod Situations
pub mod Lengths
pub mod NameLemmas
pub mod BlockFileProofs
pub mod PlaceProofs
pub mod OneName
pub mod OtherFiles
