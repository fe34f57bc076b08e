pub mod Among
pub mod Counts
pub mod Lists
pub mod Ordered
pub mod Ruled
pub mod Tests
