pub mod Marks
pub mod Order
pub mod Page
pub mod Sets
pub mod Tombs
