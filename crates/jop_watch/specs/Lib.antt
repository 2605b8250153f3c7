pub mod Progress
pub mod Watching
