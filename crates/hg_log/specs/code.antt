pub mod ChildCounts
pub mod Family
pub mod Graph
pub mod Marks
pub mod Inside
pub mod IdHash
pub mod Texts
