pub mod Told
pub mod Going
pub mod Stages
pub mod Readers
pub mod Steps
