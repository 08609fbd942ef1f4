pub mod Boxes
pub mod Faults
pub mod Listing
pub mod Tree
pub mod Ways
