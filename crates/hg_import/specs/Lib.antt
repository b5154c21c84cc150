pub mod Fronts
pub mod Pushing
pub mod Lines
pub mod Imports
pub mod Statuses
