pub mod Tallies
pub mod Dictionaries
