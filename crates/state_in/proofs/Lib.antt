pub mod Fronts
pub mod Ruled
pub mod Spanned
