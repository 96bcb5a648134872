pub use Rattle.scp_script_text.specs.scp_types
pub use Rattle.scp_script_text.specs.scp_device
pub use Rattle.scp_script_text
pub mod Hexing
pub mod Lines
pub mod Reading
pub mod Scripts
pub mod inside
