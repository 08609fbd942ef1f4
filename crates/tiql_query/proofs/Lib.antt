pub mod Finding
pub mod KindFacts
pub mod Rows
