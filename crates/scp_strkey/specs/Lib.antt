pub use Rattle.scp_types
pub mod Crc
pub mod Base32
pub mod Address
