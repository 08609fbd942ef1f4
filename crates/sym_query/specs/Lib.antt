pub mod Meant
pub mod Relations
pub mod Walks
