pub mod Number
pub mod Table
pub mod Command
pub mod Usage
pub mod Values
pub mod View
