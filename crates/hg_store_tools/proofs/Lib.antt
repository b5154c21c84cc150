pub mod CallerLemmas
mod Frames
mod Written
mod Kept
mod Parts
mod Visits
mod Files
mod Places
mod Walks
mod Marked
mod Indexes
mod Logs
mod Followings
mod Reports
mod Checks
mod Fillings
mod Cuts
mod Headers
mod Plain
mod Upgrades
pub mod Dates
mod Lists
mod Escapes
