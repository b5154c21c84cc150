pub mod Devices
pub mod Sent
pub mod Receiving
pub mod Turns
pub mod Steps
pub mod Keeping
pub mod Connections
