pub mod Changes
pub mod LentEntry
