pub mod Ends
pub mod Fronts
pub mod Items
pub mod Scans
pub mod Sides
pub mod Splitting
pub mod Variables
