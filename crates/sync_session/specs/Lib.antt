pub mod Errors
pub mod Keys
pub mod Working
pub mod Ordering
pub mod Leaving
pub mod Telling
pub mod Syncing
