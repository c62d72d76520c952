pub mod Stepping
pub mod Booked
pub mod Stepped
pub mod Composing
pub mod Opened
pub mod FoundAgain
pub mod Ended
pub mod ReportRows
