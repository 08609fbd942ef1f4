pub mod Linked
pub mod Parts
pub mod Spreading
pub mod Filling
