pub mod Fitting
pub mod Selecting
pub mod Views
