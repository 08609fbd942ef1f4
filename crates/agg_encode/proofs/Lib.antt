pub mod WorldColumns
pub mod RootNodes
pub mod Points
pub mod Encoded
pub mod Building
pub mod SmallValues
