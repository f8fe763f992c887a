pub mod Limits
pub mod Listed
pub mod Shown
pub mod Tests
pub mod Faults
pub mod Parts
pub mod Sound
