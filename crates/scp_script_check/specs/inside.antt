pub mod Behind
pub mod Led
pub mod Lines
pub mod Nodes
pub mod Sent
