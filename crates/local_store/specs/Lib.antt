pub mod Rows
pub mod Tables
pub mod Changing
pub mod Sound
pub mod Ledger
pub mod Ordered
pub mod Places
pub mod Tale
