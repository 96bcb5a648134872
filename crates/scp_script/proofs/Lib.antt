pub mod Lines
pub mod QuorumSets
pub mod Tables
pub mod Peers
pub mod Admitted
pub mod Judged
pub mod Taken
pub mod Digits
