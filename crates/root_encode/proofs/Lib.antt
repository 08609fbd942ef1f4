pub mod Asked
pub mod ByKind
pub mod Meant
pub mod Sums
pub mod Telling
