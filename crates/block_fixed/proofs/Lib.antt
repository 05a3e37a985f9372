pub mod Carried
pub mod Chain
