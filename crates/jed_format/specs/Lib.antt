pub mod Base64
pub mod Chunk
pub mod Grammar
pub mod Jed
pub mod Opening
pub mod Refusals
pub mod Sealed
pub mod Write
