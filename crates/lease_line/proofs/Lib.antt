mod Octets
mod Lists
mod Written
mod Yields
