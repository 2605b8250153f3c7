pub mod Outcomes
pub mod Replies
pub mod Sites
pub mod Asking
