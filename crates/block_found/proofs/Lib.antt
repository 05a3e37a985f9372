pub mod Sets
pub mod Firsts
