pub mod Insides
pub mod Meets
pub mod FalseRows
pub mod Sums
pub mod Points
pub mod Closing
pub mod Rows
