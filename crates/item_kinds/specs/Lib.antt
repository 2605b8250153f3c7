pub mod Calendar
pub mod Times
pub mod Moment
pub mod Kinds
pub mod Slots
pub mod Made
