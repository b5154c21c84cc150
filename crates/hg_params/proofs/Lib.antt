mod Cutting
mod EveryReading
mod FieldLaws
mod Growing
mod HeaderLaws
mod Keys
mod Ordering
mod Pieces
mod SizeLaws
mod Spelling
mod WritingLaws
pub mod CallerLemmas
