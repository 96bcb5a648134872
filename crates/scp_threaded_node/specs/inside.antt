pub mod Ending
pub mod Left
pub mod NotSent
