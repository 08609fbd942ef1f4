pub mod Built
pub mod Encoding
