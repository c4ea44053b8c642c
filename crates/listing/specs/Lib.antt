pub mod Listing
pub mod File
