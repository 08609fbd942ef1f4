pub mod Forms
pub mod Stands
pub mod Columns
pub mod Rows
pub mod Tables
pub mod Tellings
pub mod Points
pub mod Scraps
