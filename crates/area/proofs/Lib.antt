pub mod Agreeing
pub mod FarEnd
pub mod Cleared
pub mod Longer
pub mod Starting
pub mod Told
pub mod Heights
pub mod Single
