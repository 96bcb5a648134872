pub mod Telling
pub mod Whole
