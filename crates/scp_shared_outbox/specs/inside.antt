pub mod Rule
pub mod Passes
pub mod Links
