pub mod Entries
pub mod Layout
pub mod Linkage
pub mod Rings
pub mod Walks
