pub mod Bookmarks
pub mod Payload
pub mod Known
pub mod PushKey
pub mod KeyFaults
pub mod code
