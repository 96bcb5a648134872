pub mod Floats
