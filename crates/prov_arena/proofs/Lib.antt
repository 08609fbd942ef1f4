mod Items
mod Spellings
mod ChainLemmas
mod Blanks
pub mod GraphLemmas
mod StartLemmas
