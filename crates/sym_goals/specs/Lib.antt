pub mod Goals
pub mod Meant
pub mod Parts
pub mod Shares
