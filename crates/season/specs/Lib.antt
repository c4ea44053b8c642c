pub mod Archive
pub mod Share
pub mod Season
pub mod Stream
pub mod Inner
pub mod Promise
pub mod Open
