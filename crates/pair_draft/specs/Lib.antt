pub mod Files
pub mod Checking
pub mod Writers
pub mod Bases
