pub use Rattle.scp_prompt
pub mod Kinds
pub mod Words
pub mod Refusals
pub mod Outcomes
pub mod Laws
pub mod inside
