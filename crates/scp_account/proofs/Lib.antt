pub mod Counting
pub mod Speaking
pub mod Grounds
pub mod Seen
pub mod Floats
pub mod Run
pub mod InTurn
