pub mod Kinds
pub mod Envelopes
pub mod Ballots
pub mod Claims
pub mod Sane
pub mod Newer
pub mod Laws
pub mod Short
