pub mod Emptiness
pub mod Pile
