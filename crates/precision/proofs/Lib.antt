pub mod Rooting
pub mod Squaring
pub mod Admitting
pub mod Meaning
pub mod Promising
pub mod Adjusting
pub mod Telling
