pub mod Words
pub mod Status
pub mod Eeprom
pub mod EepromSet
pub mod Set
pub mod Commands
