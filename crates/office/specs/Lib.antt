pub mod Promises
pub mod Terms
pub mod Statuses
