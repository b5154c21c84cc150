mod MetadataLemmas
mod LaterLemmas
mod MergeLemmas
mod PlaceLemmas
mod ReadingLemmas
mod MarkerLaws
mod DataLaws
mod EachLemmas
mod LawfulLemmas
mod Base85Tables
mod Base85Groups
mod Base85RoundTrip
pub mod CallerLemmas
