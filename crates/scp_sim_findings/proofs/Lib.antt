pub mod Aiming
pub mod Keeping
pub mod Telling
pub mod Texts
pub mod Worst
