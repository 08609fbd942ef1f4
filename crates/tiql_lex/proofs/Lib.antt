mod Digits
pub mod KindFacts
pub mod Lexing
pub mod Spans
pub mod Texts
pub mod Unique
