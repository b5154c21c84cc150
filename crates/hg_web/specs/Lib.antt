pub mod Looking
pub mod Pushes
pub mod Pushers
pub mod Letting
pub mod Dismissals
pub mod Answering
pub mod Serving
pub mod code
