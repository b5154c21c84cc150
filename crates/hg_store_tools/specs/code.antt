pub mod Canonical
pub mod Changing
