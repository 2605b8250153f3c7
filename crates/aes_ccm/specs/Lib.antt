pub mod Lists
pub mod Field
pub mod Aes
pub mod Columns
pub mod Schedule
pub mod Ccm
pub mod Hmac
