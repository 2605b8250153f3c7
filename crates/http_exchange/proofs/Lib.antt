pub mod Looking
pub mod Bodies
pub mod OneHead
pub mod Interims
pub mod Answering
pub mod Sent
