pub mod Made
pub mod Sound
mod KeptBlobs
