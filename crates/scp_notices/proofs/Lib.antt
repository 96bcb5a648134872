pub mod Queues
pub mod Watching
pub mod Placing
pub mod Owning
pub mod Runs
pub mod Order
pub mod Choices
pub mod Stops
pub mod Values
pub mod Counting
pub mod Fitting
pub mod Joining
pub mod Parts
mod Naming
