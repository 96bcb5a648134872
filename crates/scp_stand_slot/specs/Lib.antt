pub use Rattle.scp_script.specs.scp_device
pub use Rattle.scp_script
pub use Rattle.scp_text
pub mod Adding
pub mod NodeNames
pub mod Names
pub mod Machine
pub mod inside
