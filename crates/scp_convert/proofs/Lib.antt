pub mod Back
pub mod Floats
pub mod Made
pub mod Unsaid
