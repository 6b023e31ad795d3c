pub mod FilePlant
