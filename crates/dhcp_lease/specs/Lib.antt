pub mod Lease
pub mod LeaseView
pub mod Steps
pub mod Texts
pub mod Values
pub mod Vendor
