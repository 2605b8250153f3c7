pub mod Info
pub mod Json
pub mod Merge
pub mod Read
pub mod Version
