pub mod Journal
pub mod View
pub mod Image
pub mod Open
