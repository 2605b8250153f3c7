pub mod Seen
pub mod Standing
pub mod Walks
pub mod Linked
