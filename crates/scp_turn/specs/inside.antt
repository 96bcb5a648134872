pub mod Acting
pub mod InTurn
pub mod Draining
pub mod Cause
pub mod Carrying
