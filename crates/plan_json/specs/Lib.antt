pub mod Id
pub mod Forms
pub mod Written
pub mod Reading
pub mod Plans
pub mod Checks
