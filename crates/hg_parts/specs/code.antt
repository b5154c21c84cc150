pub mod Table
pub mod Changegroup
pub mod PhaseHeads
pub mod Pushkey
pub mod Handled
pub mod Replies
pub mod Sent
