pub mod CallerLemmas
mod OrderLemmas
mod Numbers
mod Flat
mod Filled
mod Own
mod Search
mod Lookups
mod Parts
mod Edits
mod InOrder
