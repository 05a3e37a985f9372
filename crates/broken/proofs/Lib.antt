pub mod Lowest
pub mod Asking
pub mod Inside
pub mod Brokens
pub mod Numbers
pub mod Examples
