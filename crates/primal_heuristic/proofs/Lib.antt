pub mod Beside
pub mod Least
pub mod Taken
pub mod Cheaper
