pub mod Columns
pub mod Corners
pub mod Duality
