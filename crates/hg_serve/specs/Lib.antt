pub mod Histories
pub mod Desks
pub mod Clients
pub mod Answers
pub mod code
