pub mod Determined
pub mod Examples
pub mod Form
pub mod Marked
pub mod Readings
pub mod Splitting
pub mod Told
