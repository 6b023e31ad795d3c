pub mod Onie
pub mod Judgement
pub mod Booting
