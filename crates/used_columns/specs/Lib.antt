pub mod Used
pub mod Marks
pub mod Columns
pub mod Laid
pub mod Aids
pub mod Places
pub mod Seeds
