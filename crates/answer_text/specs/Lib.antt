pub mod Answers
pub mod Blocks
pub mod Lines
pub mod Text
pub mod Tokens
pub mod Worlds
pub mod Written
