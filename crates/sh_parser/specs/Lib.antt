pub mod Modes
pub mod Words
pub mod Faults
pub mod Grammar
pub mod Reading
pub mod Laws
