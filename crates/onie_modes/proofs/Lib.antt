pub mod WholeLines
pub mod Outcomes
pub mod Boards
pub mod Scripts
pub mod Asked
pub mod Nearby
pub mod Ends
pub mod Listing
