pub mod Saying
pub mod Judging
pub mod Naming
pub mod Boards
pub mod Certifying
pub mod Backing
pub mod Contradicting
pub mod Same
