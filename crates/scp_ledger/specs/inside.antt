pub mod Coding
pub mod Entering
pub mod FateBy
pub mod State
pub mod Window
