pub mod Lin
pub mod Div
