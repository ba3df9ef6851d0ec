pub mod Counting
pub mod Words
pub mod Comparisons
