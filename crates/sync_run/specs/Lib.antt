pub mod Outcomes
pub mod Sessions
pub mod Inner
pub mod Leases
pub mod Ordering
pub mod Checks
pub mod Upgrades
