pub mod Names
pub mod Sets
pub mod Config
pub mod Wrong
pub mod Texts
pub mod Form
pub mod inside
