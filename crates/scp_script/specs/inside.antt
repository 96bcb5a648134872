pub mod Bare
pub mod Judging
pub mod Reading
