pub mod Table
pub mod Solution
pub mod Inner
pub mod Lent
