pub mod Ids
pub mod Recorded
