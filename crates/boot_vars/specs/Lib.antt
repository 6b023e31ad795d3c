pub mod Lines
pub mod Opening
pub mod Places
pub mod Setting
pub mod Vars
