pub mod Laws
pub mod GoingOn
pub mod Alone
