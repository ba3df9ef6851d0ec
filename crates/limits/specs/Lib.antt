pub mod Capacity
pub mod Refusals
