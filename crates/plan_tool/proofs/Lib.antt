pub mod Refusing
pub mod Nodes
pub mod Inputs
pub mod Limits
pub mod Ranges
pub mod LastLine
