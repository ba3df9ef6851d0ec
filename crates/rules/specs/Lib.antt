pub mod Entries
pub mod Held
pub mod Trees
pub mod Lookups
pub mod Walks
pub mod Inserts
pub mod Calls
pub mod Neighbours
