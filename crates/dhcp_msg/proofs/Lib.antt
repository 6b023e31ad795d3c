pub mod FieldLoop
pub mod Gathering
pub mod Grammar
pub mod Joining
pub mod Lists
pub mod Messages
pub mod Steps
pub mod Written
