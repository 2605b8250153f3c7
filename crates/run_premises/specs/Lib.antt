pub mod Between
pub mod InTime
pub mod Seen
pub mod Steps
