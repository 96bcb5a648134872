mod OneEach
pub mod Kept
pub mod Waiting
pub mod Giving
pub mod WaitingOn
pub mod GivingOn
pub mod Putting
