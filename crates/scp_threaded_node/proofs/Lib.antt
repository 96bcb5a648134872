pub mod Lists
mod Leaving
mod Crossing
mod Lanes
mod Rooms
mod Told
pub mod Changing
pub mod Staying
pub mod Given
