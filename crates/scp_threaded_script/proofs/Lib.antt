mod Nodes
mod Peers
mod Links
mod Sending
mod Telling
mod Acting
mod Doing
mod Standing
pub mod Ending
mod Faults
pub mod Waiting
mod Seating
mod Travelling
mod Giving
mod Starting
mod Keeping
