pub use Rattle.scp_shown.specs.scp_types
pub use Rattle.scp_shown.specs.scp_device
pub use Rattle.scp_shown.specs.scp_audit
pub use Rattle.scp_shown.specs.scp_history
pub mod Entries
pub mod Report
pub mod Laws
pub mod inside
