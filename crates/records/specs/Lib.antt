pub mod Marks
pub mod Records
pub mod Reading
pub mod Answers
pub mod Writing
