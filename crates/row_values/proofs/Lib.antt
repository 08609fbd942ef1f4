pub mod Agreed
pub mod Evaluate
