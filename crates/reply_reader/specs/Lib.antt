pub mod Layouts
pub mod Pieces
