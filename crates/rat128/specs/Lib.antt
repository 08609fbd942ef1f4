pub mod Integers
pub mod Fractions
pub mod Rationals
pub mod Divisors
pub mod Operations
pub mod Steps
pub mod Text
