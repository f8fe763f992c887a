pub mod Runs
pub mod Steps
pub mod Links
pub mod Whole
pub mod Held
pub mod Alive
