pub mod Opening
pub mod Verdict
pub mod Headway
