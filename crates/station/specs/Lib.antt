pub mod Named
pub mod Allowed
pub mod Rules
pub mod Station
pub mod Shown
pub mod Counted
