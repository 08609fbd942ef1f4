pub mod Rationals
pub mod Divisors
pub mod Lowest
pub mod Operations
pub mod Texts
mod Halving
mod Signs
mod Sums
mod Products
mod Orders
