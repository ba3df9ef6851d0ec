pub mod Orders
pub mod Openings
pub mod Sharing
pub mod Steps
