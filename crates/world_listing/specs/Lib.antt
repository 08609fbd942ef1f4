pub mod Faults
pub mod Judge
pub mod Parts
pub mod Sections
pub mod Works
