pub mod Search
pub mod Sides
pub mod Losses
