pub mod Texts
pub mod Copied
pub mod Views
pub mod Growth
