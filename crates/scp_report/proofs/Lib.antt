pub mod Numbers
pub mod Rows
pub mod Sections
pub mod ConnectionOrder
pub mod Sorting
pub mod Documents
pub mod Asked
