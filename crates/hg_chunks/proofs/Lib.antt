mod Sizes
mod OneReading
mod EveryReading
mod Steps
mod Phases
mod Whole
mod Written
pub mod CallerLemmas
