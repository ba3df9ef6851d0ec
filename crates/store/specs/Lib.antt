pub mod Tables
pub mod Lookups
pub mod Unzips
pub mod Stores
pub mod Entries
pub mod Neighbours
pub mod Keeping
