pub mod Firsts
mod Index
mod Counting
mod Parts
mod Parsed
