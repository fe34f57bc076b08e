pub mod Kind
pub mod Reading
pub mod Reader
pub mod Text
pub mod Whole
pub mod Writable
pub mod Accepted
pub mod Laws
