pub mod Sections
pub mod Grouped
