pub mod Counted
pub mod Counting
pub mod Fetched
pub mod Loaded
pub mod One
pub mod Readied
pub mod Steps
