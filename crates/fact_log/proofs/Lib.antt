pub mod Equal
pub mod Buckets
pub mod Slots
pub mod Entering
pub mod Appending
pub mod Cutting
pub mod Unread
