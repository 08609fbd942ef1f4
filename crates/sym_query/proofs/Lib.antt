pub mod Hypos
pub mod Making
pub mod Needs
pub mod Places
pub mod Views
pub mod Whole
