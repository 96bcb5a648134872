pub mod Listing
pub mod Joining
pub mod Saying
pub mod Siding
pub mod Telling
pub mod Pairing
pub mod Gathering
pub mod Oneness
