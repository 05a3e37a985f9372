pub mod Pending
pub mod Page
pub mod Landing
pub mod Passes
