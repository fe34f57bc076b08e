pub mod Made
pub mod Json
pub mod Put
