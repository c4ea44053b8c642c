pub mod Totalling
pub mod Promising
pub mod Printing
pub mod Entering
pub mod Streaming
pub mod Summing
pub mod Figures
pub mod ReadingReports
