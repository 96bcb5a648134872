pub use Rattle.scp_threaded_node.specs.scp_workers
pub use Rattle.scp_threaded_node.specs.scp_gather
pub use Rattle.scp_threaded_node
pub mod Lines
pub mod Travels
pub mod Reported
pub mod Waits
pub mod inside
