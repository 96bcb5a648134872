pub use Rattle.scp_types
pub mod Device
pub mod Expected
