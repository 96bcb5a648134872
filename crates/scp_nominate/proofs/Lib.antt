mod Ascending
mod Growing
pub mod Passing
mod Options
pub mod Staying
mod Settling
mod Knowing
mod Naming
mod Leading
mod Advancing
mod Suggesting
mod Turning
mod Turns
mod Inserting
mod Repeated
mod Merging
pub mod Lawful
