pub mod Sgb
pub mod Block
pub mod Valid
pub mod Good
pub mod Fresh
