pub mod Weaving
pub mod Telling
