pub mod Boxes
pub mod Closing
pub mod Columns
pub mod Counting
pub mod Covering
pub mod Faults
pub mod Numbering
pub mod Trees
