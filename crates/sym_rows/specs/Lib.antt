pub mod Cells
pub mod Hypos
pub mod Possible
pub mod Walks
