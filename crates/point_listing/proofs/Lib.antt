pub mod Solves
pub mod Steps
pub mod Tells
pub mod Worlds
