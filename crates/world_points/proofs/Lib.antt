pub mod Laws
pub mod Ordered
pub mod Told
pub mod Within
