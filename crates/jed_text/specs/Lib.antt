pub mod Units
pub mod Hexadecimal
pub mod Escape
