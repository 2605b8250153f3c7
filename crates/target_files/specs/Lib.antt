pub mod Folders
pub mod Listed
pub mod Outcome
pub mod Reading
pub mod Trouble
