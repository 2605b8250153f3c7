pub mod LineFeeds
pub mod FileLines
pub mod Fronts
pub mod Counting
pub mod Steps
pub mod Heads
pub mod Standing
pub mod Saying
