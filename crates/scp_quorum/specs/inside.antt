pub mod Groups
pub mod Marks
pub mod Quorum
pub mod QuorumTree
pub mod Satisfies
