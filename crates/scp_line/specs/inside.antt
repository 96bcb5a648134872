pub mod Nodes
pub mod Player
