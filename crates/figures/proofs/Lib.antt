pub mod Repeated
pub mod Ten
pub mod Useless
