pub mod Given
pub mod Converting
pub mod Plain
pub mod Reading
pub mod Runs
