pub mod Uploading
pub mod Settled
pub mod Conditions
pub mod Found
pub mod Deleting
