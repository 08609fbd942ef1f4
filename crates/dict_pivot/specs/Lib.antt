pub mod Tables
pub mod Dictionaries
pub mod Steps
pub mod Quantities
pub mod First
