pub mod Scripts
pub mod SlotTexts
pub mod Decoding
