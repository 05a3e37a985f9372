pub mod Verdict
pub mod Checked
