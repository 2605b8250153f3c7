pub mod Cuts
pub mod Headlines
