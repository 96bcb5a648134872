pub mod Places
pub mod Failing
