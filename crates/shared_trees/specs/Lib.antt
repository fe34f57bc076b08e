pub mod Expanded
pub mod Laws
pub mod Written
