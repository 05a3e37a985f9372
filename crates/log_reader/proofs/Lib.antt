pub mod Printing
pub mod Feeding
pub mod Ending
pub mod Outcomes
pub mod Programs
