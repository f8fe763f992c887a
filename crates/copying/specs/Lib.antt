pub mod Layout
pub mod Written
pub mod Places
pub mod Copied
