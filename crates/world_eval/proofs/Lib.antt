pub mod Meant
pub mod Stands
pub mod Turns
pub mod Wide
