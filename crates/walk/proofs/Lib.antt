pub mod Listing
pub mod Nth
pub mod Questions
pub mod Reading
pub mod Seeking
pub mod Spelling
