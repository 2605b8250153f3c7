pub mod Answers
pub mod Faults
pub mod Opening
pub mod Speaking
pub mod Statements
pub mod Waiting
