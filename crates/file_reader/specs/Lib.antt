pub mod Came
pub mod Told
