pub mod Joins
pub mod EachChange
pub mod Settled
pub mod Settling
pub mod Told
pub mod Obeying
pub mod Breaking
pub mod Keyed
