pub mod Solving
pub mod Works
