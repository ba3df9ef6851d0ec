pub mod Heads
pub mod Fronts
pub mod Exactly
pub mod Symbols
pub mod Putting
