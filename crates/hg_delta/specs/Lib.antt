pub mod Delta
pub mod Faults
pub mod Outcome
pub mod code
