mod Closing
pub mod Found
