pub mod Ending
pub mod Outlets
pub mod Over
pub mod Played
pub mod Reported
pub mod Waiting
