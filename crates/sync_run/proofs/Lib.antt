mod Held
pub mod Leases
pub mod Ordered
pub mod Starved
pub mod Whole
