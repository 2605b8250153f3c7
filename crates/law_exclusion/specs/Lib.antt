pub mod Exclusive
pub mod Learnt
pub mod Stories
pub mod Runs
pub mod Target
pub mod Broken
