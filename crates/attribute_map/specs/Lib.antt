pub mod Data
pub mod Map
