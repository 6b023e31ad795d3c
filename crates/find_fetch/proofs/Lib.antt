mod AimLemmas
mod Asking
mod Clients
mod Seeking
mod SpotLemmas
