mod PartLemmas
pub mod Walks
pub mod WordLemmas
