pub mod Rows
pub mod Table
pub mod Listed
