pub mod Catalogue
pub mod Groups
pub mod Spelled
