pub mod Order
pub mod Roots
pub mod Phases
pub mod Standing
pub mod Counts
pub mod Entries
pub mod code
