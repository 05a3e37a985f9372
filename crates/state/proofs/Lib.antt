pub mod Takes
pub mod Answers
pub mod Calls
pub mod Determined
