pub mod Crashes
pub mod Answering
pub mod Progress
pub mod Opening
pub mod LastLine
pub mod OneDisk
pub mod Judging
mod PutFiles
mod FreshImages
pub mod Foreign
