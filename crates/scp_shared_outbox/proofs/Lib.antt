pub mod Views
pub mod Moves
pub mod Lists
pub mod Crossing
pub mod Marked
pub mod Given
pub mod InOrder
pub mod Each
pub mod Peers
pub mod ListsOfAll
mod Desks
mod Handing
mod Back
mod Rows
