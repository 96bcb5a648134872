pub mod Running
pub mod Taking
pub mod Making
pub mod Limiting
pub mod Sets
