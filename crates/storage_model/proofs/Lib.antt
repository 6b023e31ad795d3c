pub mod BootLemmas
mod ChoiceLemmas
pub mod GuidText
pub mod Lines
pub mod NamedLemmas
pub mod TestLemmas
