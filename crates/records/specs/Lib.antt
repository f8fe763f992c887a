pub mod Kinds
pub mod Meaning
pub mod Records
pub mod Row
