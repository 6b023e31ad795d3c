pub mod AskedWords
pub mod FieldLines
pub mod Reporting
pub mod Showing
pub mod PrintingFields
pub mod SettingField
pub mod ChangeLemmas
pub mod Changing
