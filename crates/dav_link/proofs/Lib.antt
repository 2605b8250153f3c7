pub mod LinkLaws
pub mod Waiting
