pub mod Heard
pub mod Served
pub mod Turns
pub mod Told
