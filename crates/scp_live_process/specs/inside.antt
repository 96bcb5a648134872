pub mod Batches
pub mod Replaying
pub mod Texts
