pub mod Bytes
pub mod NullId
pub mod Part
pub mod Limits
pub mod Phase
pub mod Hashes
pub mod code
