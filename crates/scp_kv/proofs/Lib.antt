pub mod Bytes
pub mod Lists
pub mod Maps
pub mod Parted
