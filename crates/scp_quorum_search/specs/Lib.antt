pub use Rattle.scp_quorum.specs.scp_types
pub use Rattle.scp_quorum.specs.scp_xdr
pub use Rattle.scp_quorum
pub mod Quorums
pub mod Beside
pub mod Meeting
pub mod Losses
pub mod inside
