pub mod Numbered
pub mod WeighingNumbers
pub mod Fed
pub mod Closed
pub mod Theorems
