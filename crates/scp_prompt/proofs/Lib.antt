pub mod DeviceLemmas
pub mod StreamLemmas
pub mod Written
