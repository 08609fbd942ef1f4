pub mod Aggregates
pub mod Groups
pub mod Meanings
pub mod Steps
pub mod Together
