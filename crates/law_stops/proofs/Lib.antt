pub mod Cutting
pub mod Ends
pub mod Stopped
pub mod Uncalled
