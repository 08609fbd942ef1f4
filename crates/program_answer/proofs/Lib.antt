pub mod Widths
pub mod Best
pub mod Verdicts
