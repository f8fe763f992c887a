pub mod Lookups
pub mod Spelling
