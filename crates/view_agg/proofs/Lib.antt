pub mod Arms
pub mod Finished
pub mod Fits
pub mod Left
pub mod Marked
