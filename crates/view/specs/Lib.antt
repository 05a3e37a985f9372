pub mod Refusal
pub mod Looks
pub mod Answers
