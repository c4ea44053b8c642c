pub mod Touching
pub mod Unique
