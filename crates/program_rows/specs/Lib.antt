pub mod Goals
pub mod Programs
pub mod Worlds
pub mod Fair
pub mod Gathering
pub mod Faults
pub mod Sown
