mod Numbers
mod Ranges
mod Rising
mod Joining
mod Kept
mod Standings
mod Lowered
mod Restood
mod Steps
mod RootLaws
mod Told
mod Passing
mod Soundness
mod Undoing
mod Counting
mod EntryLemmas
pub mod CallerLemmas
