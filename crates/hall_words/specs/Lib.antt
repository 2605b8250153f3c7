pub mod Plain
pub mod Three
