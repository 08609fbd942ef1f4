mod ChainLemmas
pub mod Fields
mod HeaderLemmas
mod KeyLemmas
pub mod Lines
pub mod Numerals
pub mod Outcomes
mod Passing
pub mod Plain
pub mod Readings
mod Refusals
mod TableRows
mod ValueLemmas
mod WholeReading
mod WholeWritten
