pub mod Played
pub mod Saying
pub mod Epoch
pub mod Life
pub mod Laws
pub mod Ascending
pub mod inside
