pub mod Layout
pub mod Positions
pub mod Kept
pub mod Prices
pub mod Reduced
pub mod Picks
