pub mod Rising
pub mod Path
pub mod Goods
pub mod Compared
pub mod Shown
pub mod Choice
pub mod Endings
pub mod Evidence
