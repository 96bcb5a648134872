pub mod Playing
pub mod Alike
