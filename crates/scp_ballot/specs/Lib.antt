pub use Rattle.scp_ballot_rules
pub mod View
pub mod Balloting
pub mod Outcome
pub mod inside
