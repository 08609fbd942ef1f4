pub mod Each
pub mod FewColumns
pub mod Hypos
pub mod Makes
pub mod PossibleRows
pub mod PossibleTables
pub mod Walks
