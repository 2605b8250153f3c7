pub mod Answers
pub mod Lookup
pub mod Saving
pub mod Makers
pub mod Editing
pub mod Amending
pub mod Tagging
pub mod Free
