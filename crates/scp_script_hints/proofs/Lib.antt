pub mod QuorumTexts
pub mod Knowing
pub mod Sending
pub mod Telling
