pub mod Turns
pub mod Ends
pub mod Laws
pub mod Crossing
pub mod inside
pub mod Places
pub mod Table
