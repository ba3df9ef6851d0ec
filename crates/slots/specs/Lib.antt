pub mod Slots
pub mod Searches
