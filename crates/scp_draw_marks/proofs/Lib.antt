pub mod Placing
pub mod Saying
pub mod Valuing
