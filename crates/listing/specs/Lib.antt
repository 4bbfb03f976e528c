pub mod Listing
pub mod Found
