pub mod Taken
pub mod Left
pub mod Still
pub mod Emptied
pub mod Paged
