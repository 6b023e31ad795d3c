pub mod Firsts
mod Index
mod Files
