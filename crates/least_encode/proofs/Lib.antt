pub mod Weights
pub mod Loops
pub mod Gadget
pub mod Ready
pub mod Telling
