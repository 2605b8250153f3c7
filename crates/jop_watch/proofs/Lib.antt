pub mod Drawn
pub mod Logged
