pub mod Heads
pub mod Texts
pub mod Answers
pub mod Causes
pub mod Steps
pub mod Whole
