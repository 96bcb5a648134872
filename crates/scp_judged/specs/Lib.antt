pub use Rattle.scp_ledger.specs.scp_vote
pub use Rattle.scp_ledger
pub mod Named
pub mod Verdicts
pub mod Certified
pub mod Backed
pub mod Contradicts
pub mod inside
