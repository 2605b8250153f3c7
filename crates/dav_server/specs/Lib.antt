pub mod Hearing
pub mod Errors
pub mod Serving
