pub mod Worlds
pub mod Commands
pub mod Causes
pub mod Run
pub mod Headline
