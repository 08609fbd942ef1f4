pub mod Formulas
pub mod Words
pub mod Hashes
pub mod Graphs
pub mod Chains
