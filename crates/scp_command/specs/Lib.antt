pub mod Given
pub mod Answers
pub mod Converting
pub mod Causes
pub mod Serving
pub mod inside
