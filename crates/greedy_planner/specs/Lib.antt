pub mod Volumes
pub mod Greedy
pub mod Sound
pub mod Steps
