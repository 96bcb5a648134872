pub mod Ring
pub mod Table
