pub mod Noted
pub mod Asked
pub mod Single
