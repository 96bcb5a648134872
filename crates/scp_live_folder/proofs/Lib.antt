pub mod Outcomes
pub mod Switching
pub mod Projecting
