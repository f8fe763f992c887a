pub mod Steps
pub mod Nexts
pub mod Joins
pub mod Bare
pub mod Live
pub mod Waits
