pub mod Cases
pub mod Cuts
pub mod Heads
pub mod Statements
pub mod Slots
