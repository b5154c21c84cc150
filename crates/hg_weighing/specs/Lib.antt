pub mod Lengths
pub mod Weighing
