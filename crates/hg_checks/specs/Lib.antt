pub mod Checked
pub mod CheckFaults
pub mod Checks
