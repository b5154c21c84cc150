pub mod Unsupported
pub mod Check
pub mod Changegroup
pub mod PhaseHeads
pub mod Bookmarks
pub mod Obsmarkers
pub mod Pushkey
