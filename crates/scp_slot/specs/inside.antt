pub mod Judged
pub mod Newest
pub mod Sets
