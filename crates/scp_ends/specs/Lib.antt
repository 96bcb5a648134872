pub mod Ends
pub mod Order
pub mod Links
pub mod Commands
pub mod Window
pub mod inside
