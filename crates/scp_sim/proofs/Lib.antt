pub mod Saying
pub mod Happened
pub mod Whole
