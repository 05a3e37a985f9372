pub mod Lines
pub mod Coming
pub mod Examples
