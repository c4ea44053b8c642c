pub mod Composing
pub mod Figure3
pub mod Tabling
pub mod Filing
pub mod Following
