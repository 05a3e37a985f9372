pub mod Merge
pub mod Order
pub mod BlockOrder
pub mod Examples
