pub mod Stretches
pub mod Short
pub mod Pages
