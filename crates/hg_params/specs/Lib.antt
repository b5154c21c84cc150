pub mod Header
pub mod Laws
pub mod StreamParams
pub mod Writing
pub mod code
