pub mod Reading
pub mod Run
pub mod Replies
pub mod Report
pub mod code
