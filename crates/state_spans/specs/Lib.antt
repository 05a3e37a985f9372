pub mod State
pub mod Coming
pub mod Going
pub mod Forgotten
pub mod Told
