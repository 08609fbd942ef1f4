pub mod Counts
pub mod HeldFiles
pub mod MemoryShelves
pub mod MemorySinks
pub mod Shelves
pub mod Sinks
pub mod SureShelves
pub mod SureSinks
