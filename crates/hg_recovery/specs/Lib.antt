pub mod Replays
pub mod Recovery
pub mod Faults
pub mod Opening
pub mod Taking
pub mod Next
pub mod Standbys
