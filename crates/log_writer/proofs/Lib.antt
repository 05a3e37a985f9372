pub mod Tallies
pub mod Telling
