pub mod Greedy
pub mod Looks
pub mod Prices
pub mod Better
