pub mod Auditing
pub mod Oneness
pub mod Refusing
