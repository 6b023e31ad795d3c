mod Dates
mod Decimals
mod Examples
mod Hexadecimal
mod Printable
mod Widths
