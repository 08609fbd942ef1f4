pub mod Conditions
pub mod Expressions
pub mod Outcomes
pub mod Queries
pub mod Selects
pub mod Steps
pub mod Stops
