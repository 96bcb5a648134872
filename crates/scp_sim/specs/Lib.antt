pub use Rattle.scp_sim_options
pub mod Lines
pub mod Simulated
pub mod inside
