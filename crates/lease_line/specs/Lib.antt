pub mod Addresses
pub mod Keys
pub mod Replies
