pub mod Topics
pub mod Places
pub mod Pieces
pub mod Looks
pub mod Lines
