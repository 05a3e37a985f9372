pub mod Passes
pub mod Pages
pub mod Calling
pub mod Determined
pub mod Examples
