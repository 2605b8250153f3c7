pub mod Awaiting
pub mod Links
pub mod Memory
pub mod Receiving
