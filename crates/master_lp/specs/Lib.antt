pub mod Bounds
pub mod Source
pub mod Looks
pub mod Exact
