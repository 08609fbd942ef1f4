pub mod Kinds
pub mod Lexed
pub mod Lexemes
pub mod Places
pub mod Scan
