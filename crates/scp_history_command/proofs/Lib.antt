pub mod Told
pub mod Standing
