pub mod Rules
pub mod Reports
pub mod Errors
pub mod Remotes
