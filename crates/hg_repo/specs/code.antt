pub mod Same
pub mod Runs
