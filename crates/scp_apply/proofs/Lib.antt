pub mod Applying
pub mod Values
pub mod Next
pub mod Taking
pub mod Alike
