pub mod Calls
pub mod Items
