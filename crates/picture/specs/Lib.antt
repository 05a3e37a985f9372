pub mod Picture
pub mod Tables
