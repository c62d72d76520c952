pub mod Endings
pub mod Answer
pub mod Play
pub mod Outside
pub mod Foreign
