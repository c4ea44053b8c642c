pub mod Telling
pub mod Lettered
pub mod OwnBytes
pub mod Unique
pub mod Leaving
pub mod Seasons
pub mod Sheets
