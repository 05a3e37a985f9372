pub mod Lending
pub mod Fitted
pub mod Blocks
pub mod Stored
pub mod Out
pub mod Again
pub mod Lents
