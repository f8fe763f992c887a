pub mod Offers
pub mod Marks
pub mod Listing
