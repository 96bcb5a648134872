pub mod Outbox
pub mod Statements
pub mod Putting
