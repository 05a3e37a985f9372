pub mod Count
pub mod Lines
pub mod Port
pub mod Receive
pub mod Rises
pub mod Store
pub mod Valid
