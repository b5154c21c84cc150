pub mod Fronts
pub mod Held
pub mod Steps
pub mod Batches
pub mod Heads
pub mod Headings
