pub mod Shared
pub mod Inner
