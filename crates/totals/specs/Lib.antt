pub mod Totals
pub mod Promise
pub mod Text
pub mod Adding
