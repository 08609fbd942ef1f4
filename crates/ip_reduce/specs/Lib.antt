pub mod Rows
pub mod Reductions
pub mod Hashes
pub mod Chains
pub mod Entries
pub mod Sieves
pub mod Unlinking
