mod Reading
mod Spotting
