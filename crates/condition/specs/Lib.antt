pub mod Terms
pub mod Rules
pub mod Promise
pub mod Sound
pub mod Listed
