mod Firsts
mod Holding
