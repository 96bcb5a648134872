pub mod Adding
pub mod Placing
pub mod Siding
pub mod Tallying
