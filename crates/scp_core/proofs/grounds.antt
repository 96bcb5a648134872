pub mod Handing
pub mod Answers
pub mod Stepping
pub mod All
pub mod Turning
pub mod Whole
