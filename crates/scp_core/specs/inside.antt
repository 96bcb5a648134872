pub mod Links
pub mod Decider
pub mod Starting
pub mod Stage
pub mod Draining
pub mod Stops
