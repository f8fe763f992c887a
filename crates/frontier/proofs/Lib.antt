pub mod Running
pub mod Chains
pub mod Found
pub mod Verdicts
pub mod Numbers
