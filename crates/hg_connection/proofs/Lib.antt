pub mod DeviceLemmas
mod Writing
mod Waiting
mod Filling
mod Feeding
pub mod ReceivingLemmas
mod Putting
pub mod Receivings
mod Shortness
mod Exchanges
mod Chains
pub mod Joins
pub mod CallerLemmas
