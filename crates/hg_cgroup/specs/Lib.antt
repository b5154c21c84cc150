pub mod Chunk
pub mod Changeset
pub mod Group
pub mod Faults
pub mod Outcome
pub mod code
