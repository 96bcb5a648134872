pub mod TreeModel
pub mod Words
