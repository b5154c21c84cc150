pub mod Receiving
pub mod Taking
pub mod Answering
pub mod Replaying
pub mod Seeding
