pub mod Archive
pub mod Commands
pub mod Serving
