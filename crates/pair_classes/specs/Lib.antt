pub mod Windows
pub mod Groups
pub mod Classes
pub mod Meetings
pub mod Places
pub mod Kept
