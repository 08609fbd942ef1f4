pub mod Asking
pub mod Keywords
pub mod Names
pub mod Orders
pub mod Statuses
