pub use Rattle.scp_device
pub mod Disk
pub mod Log
pub mod Wanted
pub mod Kept
pub mod Memory
pub mod Past
pub mod inside
