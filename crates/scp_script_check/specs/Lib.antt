pub use Rattle.scp_script_text
pub mod Lines
pub mod Nodes
pub mod Warnings
pub mod Texts
pub mod inside
