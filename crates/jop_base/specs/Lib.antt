pub mod Decimals
pub mod Id
pub mod Keyed
pub mod LockNames
pub mod Order
pub mod Paths
pub mod Times
