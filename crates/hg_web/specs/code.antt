pub mod Wires
pub mod Rounds
pub mod Following
pub mod Bodies
pub mod Telling
pub mod Budgets
