pub mod Limits
pub mod Least
pub mod Tabled
