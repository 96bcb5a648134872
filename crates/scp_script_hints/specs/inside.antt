pub mod Apart
pub mod Behind
pub mod Told
