pub use Rattle.scp_live_log
pub mod Lines
pub mod inside
