pub mod State
pub mod Joined
pub mod Predicted
pub mod Turned
pub mod Ready
pub mod Runs
pub mod Charts
