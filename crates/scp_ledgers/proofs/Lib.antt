pub mod Entering
pub mod Lasting
pub mod Reporting
pub mod Oneness
