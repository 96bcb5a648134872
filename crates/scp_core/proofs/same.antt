-- The same events give the same replies.
pub mod Ones
pub mod Nominating
pub mod Balloting
pub mod Machines
pub mod Slots
pub mod Outboxes
pub mod Ledgers
pub mod Quiet
pub mod Stages
pub mod Nodes
pub mod Law
