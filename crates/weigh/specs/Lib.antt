pub mod Listed
pub mod Numbers
pub mod Weighed
