pub mod Places
pub mod Added
pub mod Newer
pub mod ToldSteps
pub mod KeptSteps
pub mod InTurn
