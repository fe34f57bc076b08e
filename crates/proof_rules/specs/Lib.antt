pub mod Fault
pub mod Verdict
pub mod Laws
