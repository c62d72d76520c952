pub mod Paths
pub mod Aside
pub mod BlockFiles
pub mod Places
pub mod Names
pub mod Choice
pub mod Foreign
