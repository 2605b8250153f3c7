pub mod Logs
pub mod Agreeing
pub mod Differing
pub mod Closing
