pub mod Made
pub mod Unsaid
