pub mod Matched
pub mod Points
