mod Sums
mod Meeting
mod FullLists
mod Held
mod Costs
mod Fractions
