pub mod Lengths
pub mod Fronts
pub mod Entries
pub mod OneChunk
pub mod OneReading
pub mod OneGroup
pub mod Chunks
pub mod Outcomes
