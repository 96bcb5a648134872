pub mod Playing
pub mod Leaving
pub mod Refusing
