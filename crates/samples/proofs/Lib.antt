pub mod Saturation
pub mod Tests
pub mod Stepping
pub mod Charting
pub mod Living
pub mod Going
pub mod Answering
