-- The laws of an algebra, and sums and combinations over it. Assumes nothing.
pub mod Combinations
pub mod Laws
pub mod Sums
pub mod Theorems
