pub mod Hearing
pub mod Lists
pub mod Coming
pub mod Parking
pub mod Joining
pub mod Commands
pub mod Putting
pub mod Headlines
pub mod Settling
pub mod Keeping
mod Counting
mod Hand
mod Taking
mod Small
pub mod Travelling
pub mod Parts
pub mod HearingTheirs
