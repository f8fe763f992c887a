pub mod Held
pub mod Contents
pub mod FaultNumbers
pub mod Opened
pub mod Theorems
