pub mod Needs
pub mod inside
