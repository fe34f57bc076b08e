pub mod Due
pub mod Going
pub mod Tables
pub mod Sums
pub mod Open
pub mod Walk
pub mod Reads
pub mod Check
