pub mod Ended
pub mod Listings
pub mod Status
