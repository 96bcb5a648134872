pub mod Handing
pub mod Working
