pub mod Rows
pub mod Lps
pub mod Points
pub mod Programs
pub mod Sums
