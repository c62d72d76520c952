pub mod Reports
pub mod Density
