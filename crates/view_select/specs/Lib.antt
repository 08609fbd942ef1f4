pub mod Asking
pub mod Grouping
pub mod Levels
pub mod Selects
pub mod Visits
