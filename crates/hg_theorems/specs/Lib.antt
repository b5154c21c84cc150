pub mod Canonical
pub mod Recovering
pub mod Holders
