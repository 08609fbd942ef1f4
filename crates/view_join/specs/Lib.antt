pub mod Combos
pub mod Fitting
pub mod Levels
pub mod Parts
pub mod Sources
pub mod Visiting
