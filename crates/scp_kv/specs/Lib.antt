pub use Rattle.scp_xdr.specs.scp_types
pub use Rattle.scp_xdr
pub mod Map
pub mod Op
pub mod Saved
pub mod State
pub mod inside
