pub mod Forming
pub mod Comparing
pub mod Judging
pub mod Promising
pub mod Wording
pub mod Clipping
pub mod Sheets
pub mod Figures
