pub mod Hexing
pub mod Reading
