pub mod History
pub mod Rules
pub mod Seats
pub mod Words
pub mod code
