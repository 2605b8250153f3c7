pub mod Sites
pub mod Drawing
pub mod Outside
pub mod Owning
