pub mod Columns
pub mod Holding
pub mod Meta
