pub mod Happened
pub mod Spoken
