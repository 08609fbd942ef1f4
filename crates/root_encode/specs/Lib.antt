pub mod Roots
pub mod Told
pub mod Light
