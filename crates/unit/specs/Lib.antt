pub mod Calls
pub mod Plays
pub mod Answers
pub mod Together
pub mod Pieces
pub mod Trip
