pub mod Lines
pub mod Order
pub mod Listing
pub mod File
pub mod Rescue
pub mod Inner
