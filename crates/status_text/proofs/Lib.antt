mod Texts
mod Whole
