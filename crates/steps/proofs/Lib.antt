pub mod Bridge
pub mod Copying
pub mod Reading
pub mod Moving
pub mod Joining
pub mod Bareness
pub mod Going
