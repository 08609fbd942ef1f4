pub mod Evaluating
pub mod Lines
pub mod Standings
