pub mod Refusals
pub mod Vaults
pub mod Stages
pub mod Commands
pub mod Running
pub mod Leaving
pub mod Hindering
