pub use Rattle.scp_live_log
pub mod Head
pub mod Applied
pub mod inside
