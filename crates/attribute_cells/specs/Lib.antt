pub mod Chr
