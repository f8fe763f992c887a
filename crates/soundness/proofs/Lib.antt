pub mod Useless
pub mod Growth
pub mod Turns
pub mod Summed
pub mod Verdict
