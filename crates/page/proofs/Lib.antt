pub mod Composing
pub mod Printing
