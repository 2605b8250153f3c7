pub mod Clocks
pub mod Jobs
pub mod Memory
pub mod Outside
pub mod Plan
pub mod Random
pub mod Reading
pub mod Writing
