pub mod Cut
pub mod Fields
pub mod Saved
pub mod Goods
pub mod Freshes
pub mod Made
pub mod Readings
