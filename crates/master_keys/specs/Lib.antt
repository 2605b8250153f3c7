pub mod Rings
pub mod Refusing
pub mod Unlocking
pub mod Frames
pub mod Opening
pub mod SealedUnder
pub mod SealedBlobs
