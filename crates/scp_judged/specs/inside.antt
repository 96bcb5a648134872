pub mod Newest
pub mod Judging
pub mod Lacking
pub mod Boards
pub mod Externalized
pub mod Backed
pub mod Adding
