pub mod Answer
pub mod Bytes
pub mod Encode
pub mod Fewest
pub mod Trip
pub mod Verdict
