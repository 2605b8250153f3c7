pub mod Found
pub mod Speaking
pub mod Standing
