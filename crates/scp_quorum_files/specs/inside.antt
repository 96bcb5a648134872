pub mod Agreeing
pub mod Failing
pub mod Reading
pub mod Writing
