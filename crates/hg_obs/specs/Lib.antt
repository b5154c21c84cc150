pub mod Marker
pub mod Same
pub mod Reading
pub mod Grammar
pub mod Markers
pub mod Base85
pub mod code
