pub mod Records
pub mod Scan
pub mod Net
pub mod Turns
pub mod Gathered
