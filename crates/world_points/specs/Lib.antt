pub mod Points
pub mod Subject
