pub mod Clear
pub mod Hexed
pub mod Joined
pub mod Numbers
pub mod Some
