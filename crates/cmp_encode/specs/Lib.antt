pub mod Light
pub mod Spans
pub mod Tables
