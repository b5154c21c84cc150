pub mod Places
pub mod Later
pub mod Lent
pub mod Pieces
pub mod GroupNumber
