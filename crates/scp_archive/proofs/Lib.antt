pub mod Taking
pub mod Marking
pub mod Apart
pub mod Values
