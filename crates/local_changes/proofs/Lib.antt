pub mod AmendedItems
pub mod EditedNotes
pub mod Links
pub mod Steps
pub mod Unsealed
pub mod Visits
