pub mod Serving
pub mod Answers
pub mod inside
