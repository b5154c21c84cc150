pub mod Measures
pub mod Weights
pub mod Bases
pub mod Changesets
pub mod code
