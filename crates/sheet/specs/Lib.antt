pub mod Form
pub mod Check
pub mod Promise
pub mod Answer
pub mod Inner
