pub mod Kept
pub mod Records
pub mod Active
