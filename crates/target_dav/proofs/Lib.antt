pub mod Came
pub mod Asked
