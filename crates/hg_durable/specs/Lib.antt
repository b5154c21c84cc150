pub mod Kept
pub mod Closing
pub mod code
