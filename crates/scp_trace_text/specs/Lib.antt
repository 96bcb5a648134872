pub use Rattle.scp_facts
pub mod Words
pub mod Messages
pub mod Commands
pub mod Facts
pub mod Tracing
pub mod Watching
