pub mod Keys
pub mod Kinds
pub mod Names
pub mod Rows
pub mod WellFormed
