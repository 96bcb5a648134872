pub mod Carried
pub mod LinkReading
pub mod Marks
pub mod Reading
