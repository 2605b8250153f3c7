pub mod Defaults
pub mod Opening
pub mod Starting
