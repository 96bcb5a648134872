pub mod Receiving
pub mod Outlets
pub mod Stopping
pub mod Running
pub mod Waiting
pub mod Fates
pub mod Crossing
pub mod Carrying
