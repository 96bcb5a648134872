pub mod Ballots
pub mod Ascending
pub mod Growing
pub mod NewerLaws
pub mod Longer
pub mod EnvelopeValues
