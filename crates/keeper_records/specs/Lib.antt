pub mod Writes
pub mod Making
pub mod Stores
pub mod Memory
