pub mod Command
pub mod Options
pub mod Rows
pub mod Plans
pub mod Session
