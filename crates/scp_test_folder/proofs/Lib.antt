pub mod Lines
pub mod Contents
