pub mod Equal
pub mod Meant
