pub mod Made
pub mod Infos
