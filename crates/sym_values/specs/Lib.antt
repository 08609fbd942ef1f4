pub mod Conditions
pub mod Left
pub mod Meanings
pub mod Numbers
pub mod Steps
pub mod Tests
