pub mod Folder
pub mod Epochs
pub mod inside
