pub mod Bytes
pub mod Crc
pub mod Cursor
pub mod Register
