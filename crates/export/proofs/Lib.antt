pub mod Fitting
pub mod Places
pub mod Apart
pub mod Determined
