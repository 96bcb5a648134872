pub mod Adding
pub mod Runs
pub mod Leaving
pub mod Pages
