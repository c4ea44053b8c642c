pub mod Corrections
pub mod Refusals
pub mod Demand
pub mod Promise
pub mod Inner
