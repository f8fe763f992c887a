-- The lemmas of the crate, for the crates above it too. Assumes nothing.
pub mod Chosen
pub mod Combinations
pub mod Sums
pub mod Weighted
