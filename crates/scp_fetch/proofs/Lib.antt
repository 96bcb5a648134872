pub mod Tables
pub mod Ring
pub mod Storing
pub mod Calls
