pub use Rattle.scp_ledger.specs.scp_types
pub use Rattle.scp_ledger.specs.scp_quorum
pub use Rattle.scp_ledger.specs.scp_envelope
pub use Rattle.scp_ledger.specs.scp_wire
pub use Rattle.scp_ledger.specs.scp_pending
pub use Rattle.scp_ledger
pub mod Words
