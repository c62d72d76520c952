pub mod Found
pub mod Exact
pub mod Directories
pub mod Regions
pub mod Remaining
pub mod Places
