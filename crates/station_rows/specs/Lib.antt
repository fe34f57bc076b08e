pub mod Rows
pub mod Points
pub mod Tables
pub mod Laws
pub mod Contents
pub mod Written
pub mod Plans
