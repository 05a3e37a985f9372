pub mod Laws
pub mod Spreads
