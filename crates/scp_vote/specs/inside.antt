pub mod Seats
pub mod Side
pub mod Statements
pub mod Chain
