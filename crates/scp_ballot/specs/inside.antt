pub mod Ahead
pub mod Exactly
pub mod Gives
pub mod Inputs
pub mod Balloter
pub mod Machine
