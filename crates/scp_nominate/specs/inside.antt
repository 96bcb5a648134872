pub mod Own
pub mod State
pub mod Steps
pub mod Turns
pub mod Values
