pub mod Documents
pub mod Networks
pub mod Faults
pub mod Configs
pub mod Report
pub mod Naming
pub mod inside
