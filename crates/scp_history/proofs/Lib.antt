pub mod Adding
pub mod Writing
pub mod Standing
