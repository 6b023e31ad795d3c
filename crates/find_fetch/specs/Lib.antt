pub mod Faults
pub mod Aim
pub mod Bodies
pub mod Laws
pub mod Local
pub mod Fetching
pub mod Joining
