pub mod Statuses
pub mod Pieces
pub mod Refusals
pub mod Outcomes
pub mod Reports
