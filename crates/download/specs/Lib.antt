pub mod Taking
pub mod Asked
pub mod Downloading
pub mod Reading
pub mod Emptied
