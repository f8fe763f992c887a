pub mod Feedings
pub mod Closings
pub mod Weighings
pub mod Single
