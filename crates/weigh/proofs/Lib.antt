pub mod Listed
pub mod Numbering
pub mod Indexing
pub mod Living
pub mod Multiplying
pub mod Summing
pub mod Adding
pub mod Rounding
