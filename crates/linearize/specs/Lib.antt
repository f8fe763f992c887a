pub mod Listed
pub mod Nodes
pub mod Reading
pub mod Writing
pub mod Linearizes
