pub mod Errors
pub mod Promise
