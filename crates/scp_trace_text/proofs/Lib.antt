pub mod Tracing
pub mod Writing
