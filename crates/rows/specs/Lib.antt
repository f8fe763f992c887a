pub mod Counted
pub mod Sorts
pub mod Meaning
pub mod Links
