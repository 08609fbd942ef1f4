pub mod Objective
pub mod Requirements
pub mod Turns
