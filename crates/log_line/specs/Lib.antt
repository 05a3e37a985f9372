pub mod Calls
pub mod Find
pub mod Line
pub mod Lines
pub mod Split
