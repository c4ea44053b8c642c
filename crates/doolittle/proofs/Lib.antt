pub mod Sizes
pub mod Weakness
pub mod Keeping
pub mod Reducing
pub mod Correlating
pub mod Lone
pub mod Multiple
