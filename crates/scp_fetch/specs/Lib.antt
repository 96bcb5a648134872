pub mod Hashes
pub mod Store
pub mod Wants
pub mod Calls
pub mod inside
