pub mod Parts
pub mod Lines
pub mod Fields
pub mod Numbers
pub mod Rows
pub mod Decimal
pub mod Written
