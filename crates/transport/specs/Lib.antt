pub mod Core
pub mod Coupling
pub mod Natural
pub mod Kept
pub mod Spread
