pub mod Seen
pub mod Choices
pub mod Queues
pub mod Watching
pub mod Playing
pub mod Threads
