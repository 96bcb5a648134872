pub use Rattle.scp_trace.specs.scp_facts
pub use Rattle.scp_trace
pub mod Elements
pub mod Frame
pub mod Page
pub mod Lines
pub mod inside
pub mod Drawn
