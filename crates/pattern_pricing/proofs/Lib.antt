pub mod Spots
pub mod Places
pub mod Dear
pub mod Sums
pub mod Payments
pub mod Limits
pub mod Fronts
pub mod Picked
