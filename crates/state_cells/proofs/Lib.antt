pub mod Celling
