pub mod Shown
pub mod Steps
pub mod Leaving
pub mod Counted
pub mod Unhindered
