pub mod Reply
pub mod Numbers
pub mod Verdicts
pub mod Checks
