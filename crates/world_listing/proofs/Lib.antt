pub mod FaultLaws
pub mod Sizes
pub mod Steps
pub mod Tells
pub mod Texts
pub mod Widths
