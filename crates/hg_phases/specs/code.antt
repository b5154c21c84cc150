pub mod Walk
pub mod Tape
pub mod Counts
