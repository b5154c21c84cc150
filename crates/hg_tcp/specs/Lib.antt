pub mod Accepting
pub mod Closing
pub mod Pace
pub mod Places
pub mod Served
