pub mod Closing
pub mod Leaves
