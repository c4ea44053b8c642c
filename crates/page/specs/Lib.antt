pub mod Lines
pub mod Page
