pub mod Sound
pub mod Chart
pub mod Theorems
pub mod Sums
pub mod Written
pub mod Samples
pub mod SampleChart
