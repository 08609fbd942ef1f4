pub mod Checks
pub mod Faults
pub mod Reasons
pub mod Valid
pub mod Walks
