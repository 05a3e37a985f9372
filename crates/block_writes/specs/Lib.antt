pub mod Play
pub mod Ran
