pub mod Blobs
pub mod Calls
pub mod Files
pub mod Moments
pub mod Replies
pub mod Running
pub mod Runs
pub mod SoundStore
