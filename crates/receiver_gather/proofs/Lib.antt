pub mod Feeds
pub mod Gathers
pub mod Lanes
