pub mod Counting
pub mod Sending
pub mod Taken
pub mod Telling
pub mod Turning
pub mod Wanting
