pub mod Fields
pub mod Targets
pub mod Multistatus
