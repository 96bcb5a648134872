pub use Rattle.scp_script.specs.scp_types
pub use Rattle.scp_script.specs.scp_wire
pub use Rattle.scp_script.specs.scp_device
pub use Rattle.scp_script
pub mod Told
pub mod Hints
pub mod Texts
pub mod inside
