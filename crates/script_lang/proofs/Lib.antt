pub mod WordLemmas
pub mod FieldLemmas
pub mod TableLemmas
pub mod NumberLemmas
pub mod TextLists
pub mod Volumes
pub mod Pools
pub mod DataLine
mod NodeInstances
