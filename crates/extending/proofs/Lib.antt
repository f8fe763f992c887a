pub mod Opened
pub mod Counted
