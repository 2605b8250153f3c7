pub mod Drawn
pub mod OnePiece
pub mod Rows
pub mod Short
pub mod Whole
pub mod Parts
