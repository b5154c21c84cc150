mod Mandatory
mod Tables
mod Growing
mod Writable
mod Bare
mod Refusing
mod Numbers
mod Setting
mod Adding
mod Revs
mod Heads
mod Preparing
mod Staying
pub mod CallerLemmas
