pub mod Marks
pub mod Troubles
