pub mod Rests
pub mod Rises
pub mod Rules
pub mod Finding
pub mod Told
